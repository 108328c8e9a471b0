-- How far some events that are due went into a sink, and how they are counted.
use Rattle.std.specs.Prelude.{◌≡◌, ℕ, ◌+◌, ◌^◌, ◌<◌, ◌≤◌, Bool, cond, List, [], ◌∷◌, ◌++◌, length, Ok, Err, Result}
use Rattle.model.specs.declared.EventKind.{EventKind}
use Rattle.model.specs.Events.{Ev}
use Rattle.serial.specs.Serialize.{plain}
use Rattle.yaml.specs.declared.sink.Refusal.TheVariants.{NoSpace}
use Rattle.yaml.specs.View.{View}
use Rattle.runs.specs.Writer.{Due, due_of, events, total}
use Rattle.dumper.specs.declared.answer.Why.TheVariants.{Sink}
use Rattle.dumper.specs.declared.answer.Refused.{Refused}
use Rattle.dumper.specs.declared.outlet.Outlet.{Outlet}

-- so many events were counted that the counter holds even if each byte of the room is an event
abbrev pub Countable : ℕ → View → Type 0
Countable n v = n + v.room < 2 ^ 64

-- all of them were taken
pub record AllIn (weight : Ev → ℕ) (v : View) (n : ℕ) (ds : List Due) (v' : View) (m : ℕ) : Type 0 where
  pub taken : v'.taken ≡ v.taken ++ events ds
  pub room : v'.room + total weight ds ≡ v.room
  pub counted : m ≡ n + length ds
  pub few : m + v'.room ≤ n + v.room

-- those before the first that does not fit were
pub record SomeIn (weight : Ev → ℕ) (v : View) (n : ℕ) (ds : List Due) (node size space : ℕ) (v' : View) (m : ℕ) : Type 0 where
  pub done : List Due
  pub next_one : Due
  pub left : List Due
  pub split : ds ≡ done ++ next_one ∷ left
  pub all : AllIn weight v n done v' m
  pub node_told : node ≡ next_one.node
  pub size_told : size ≡ weight next_one.event
  pub space_told : space ≡ v'.room
  pub too_large : v'.room < weight next_one.event

-- One or the other, by the answer. All these events are allowed, so that a sink refuses one only for lack of space.
pub data Hands (weight : Ev → ℕ) (v : View) (n : ℕ) (ds : List Due) (r : Result (Unit {0}) Refused) (v' : View) (m : ℕ) : Type 0 where
  all_in : r ≡ Ok tt → AllIn weight v n ds v' m → Hands weight v n ds r v' m
  some_in : {node size space : ℕ} → r ≡ Err (record { events = m; why = Sink node (NoSpace size space) }) → SomeIn weight v n ds node size space v' m → Hands weight v n ds r v' m

-- the same of an outlet before and after
abbrev pub Handed : {S : Type 0} → (Ev → ℕ) → (S → View) → Outlet S → List Due → Result (Unit {0}) Refused → Outlet S → Type 0
Handed weight view o ds r o' = Hands weight (view o.sink) o.events ds r (view o'.sink) o'.events

-- an event of the stream is due where it was not handed on before
abbrev pub once_due : EventKind → Bool → List Due
once_due kind done = cond done [] (due_of 0 (plain kind 0) ∷ [])
