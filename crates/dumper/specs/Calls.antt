-- What the contracts of the calls say beside what the law over whole runs asks of a call.
use Rattle.std.specs.Prelude.{◌≡◌, ℕ, false, List, [], Ok, Err, Result, IfOk}
use Rattle.model.specs.Events.{Ev}
use Rattle.model.specs.Graph.{Book}
use Rattle.serial.specs.Walk.{Token, Walk}
use Rattle.yaml.specs.View.{View}
use Rattle.walk.specs.Plans.{FirstUnnamed}
use Rattle.runs.specs.Writer.{State, Handed, deepest}
use Rattle.runs.specs.Law.{Law}
use Rattle.dumper.specs.declared.answer.Why.{Why}
use Rattle.dumper.specs.declared.answer.Why.TheVariants.{AlreadyOpened, NotOpened, Spoilt, Closed, TooFewCounts, TooDeep, TooFewSteps, NoAnchor, Sink}
use Rattle.dumper.specs.declared.answer.Refused.{Refused}
use Rattle.dumper.specs.declared.writer.Writer.{Writer}
use Rattle.dumper.specs.Handing.{Countable}

-- a new writer: not opened, closed or spoilt, over the sink as it was
pub record Made (v : View) (s : State) : Type 0 where
  pub not_opened : s.opened ≡ false
  pub not_closed : s.closed ≡ false
  pub not_spoilt : s.spoilt ≡ false
  pub taken : s.taken ≡ v.taken
  pub room : s.room ≡ v.room

-- over a sink that took nothing, every run keeps the law
abbrev pub LawFrom : (Ev → ℕ) → State → Type 0
LawFrom weight s = s.taken ≡ [] → Law weight s

-- what is handed to a dump
abbrev pub handed : Book → ℕ → ℕ → Handed
handed b counts steps = record { book = b; counts = counts; steps = steps }

-- the counter that was at 0 is at 0
abbrev pub Rests : ℕ → ℕ → Type 0
Rests before after = before ≡ 0 → after ≡ 0

-- the counter holds even if each byte of the room is an event: after a call that was accepted, and after any where it did before
pub record StaysCountable {S : Type 0} (view : S → View) (before : Writer S) (r : Result ℕ Refused) (after : Writer S) : Type 0 where
  pub accepted : IfOk r (λ n. Countable after.outlet.events (view after.outlet.sink))
  pub still : Countable before.outlet.events (view before.outlet.sink) → Countable after.outlet.events (view after.outlet.sink)

abbrev ToldBy : Book → Why → Type 0
ToldBy b AlreadyOpened = Unit {0}
ToldBy b NotOpened = Unit {0}
ToldBy b Spoilt = Unit {0}
ToldBy b Closed = Unit {0}
ToldBy b TooFewCounts = Unit {0}
ToldBy b TooDeep = Unit {0}
ToldBy b TooFewSteps = Unit {0}
ToldBy b (NoAnchor v) = (ts : List Token) (seen : List ℕ) → Walk b.nodes deepest ts seen → FirstUnnamed b.nodes ts v
ToldBy b (Sink v r) = Unit {0}

-- the node that is told to lack an anchor is the first that the walk meets again without one
abbrev pub Told : Book → Result ℕ Refused → Type 0
Told b (Ok n) = Unit {0}
Told b (Err f) = ToldBy b f.why
