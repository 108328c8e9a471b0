-- A writer as the law over whole runs has it, and how far the events of a call went.
use Rattle.std.specs.Prelude.{◌≡◌, ℕ, ◌+◌, ◌<◌, ◌≤◌, Bool, ◌||◌, List, ◌∷◌, ◌++◌, length, Ok, Err, Result}
use Rattle.model.specs.declared.EventKind.TheVariants.{DocumentStart}
use Rattle.model.specs.Events.{Ev}
use Rattle.yaml.specs.declared.sink.Refusal.TheVariants.{NoSpace}
use Rattle.yaml.specs.View.{View}
use Rattle.runs.specs.Writer.{State, Due, has_kind, Took}
use Rattle.dumper.specs.declared.answer.Why.TheVariants.{Sink}
use Rattle.dumper.specs.declared.answer.Refused.{Refused}
use Rattle.dumper.specs.declared.writer.Writer.{Writer}

abbrev pub state_by : Bool → Bool → Bool → View → State
state_by opened closed spoilt v = record { opened = opened; closed = closed; spoilt = spoilt; taken = v.taken; room = v.room }

abbrev pub state_of : {S : Type 0} → (S → View) → Writer S → State
state_of view w = state_by w.opened w.closed w.spoilt (view w.outlet.sink)

-- all that was due was taken
pub record Went (weight : Ev → ℕ) (s : State) (n : ℕ) (ds : List Due) (t : State) (m : ℕ) : Type 0 where
  pub took : Took weight s ds t
  pub spoilt : t.spoilt ≡ s.spoilt
  pub counted : m ≡ n + length ds
  pub few : m + t.room ≤ n + s.room

-- what was due before the first that does not fit was taken; after a document's start the writer is spoilt
pub record Broke (weight : Ev → ℕ) (s : State) (n : ℕ) (ds : List Due) (node size space : ℕ) (t : State) (m : ℕ) : Type 0 where
  pub done : List Due
  pub next_one : Due
  pub left : List Due
  pub split : ds ≡ done ++ next_one ∷ left
  pub took : Took weight s done t
  pub spoilt : t.spoilt ≡ (s.spoilt || has_kind DocumentStart done)
  pub counted : m ≡ n + length done
  pub node_told : node ≡ next_one.node
  pub size_told : size ≡ weight next_one.event
  pub space_told : space ≡ t.room
  pub too_large : t.room < weight next_one.event

-- one or the other, by the answer
pub data Goes (weight : Ev → ℕ) (s : State) (n : ℕ) (ds : List Due) (r : Result (Unit {0}) Refused) (t : State) (m : ℕ) : Type 0 where
  went : r ≡ Ok tt → Went weight s n ds t m → Goes weight s n ds r t m
  broke : {node size space : ℕ} → r ≡ Err (record { events = m; why = Sink node (NoSpace size space) }) → Broke weight s n ds node size space t m → Goes weight s n ds r t m

-- the same of a writer before and after
abbrev pub Wrote : {S : Type 0} → (Ev → ℕ) → (S → View) → Writer S → List Due → Result (Unit {0}) Refused → Writer S → Type 0
Wrote weight view w ds r w' = Goes weight (state_of view w) w.outlet.events ds r (state_of view w') w'.outlet.events
