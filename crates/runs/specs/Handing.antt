-- Handing on events one by one: what a writer's loop keeps.
use Rattle.std.specs.Prelude.{◌≡◌, ℕ, ◌+◌, Bool, List, ◌++◌}
use Rattle.model.specs.Events.{Ev}
use Rattle.yaml.specs.View.{View}
use Rattle.runs.specs.Writer.{State, Due, events, total}

-- the sink took just these events, in order
pub record HandedOn (weight : Ev → ℕ) (before : View) (done : List Due) (after : View) : Type 0 where
  pub taken : after.taken ≡ before.taken ++ events done
  pub room : after.room + total weight done ≡ before.room

-- a writer with these flags over a sink
abbrev pub state_from : Bool → Bool → Bool → View → State
state_from opened closed spoilt v = record { opened = opened; closed = closed; spoilt = spoilt; taken = v.taken; room = v.room }
