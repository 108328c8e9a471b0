-- The entries of the two tables, read and written by a node's number.
use Rattle.std.specs.Prelude.{◌≡◌, ℕ, zero, suc, cond, List, Some, None, Option, Ok, Err, Result, ◌==◌, slice_index_or, slice_set}
use Rattle.walk.specs.declared.entry.Counted.{Counted}
use Rattle.walk.specs.declared.entry.Step.{Step}
use Rattle.walk.specs.declared.entry.StepKind.{StepKind}
use Rattle.walk.specs.declared.entry.StepKind.TheVariants.{First, Again, Leave}
use Rattle.walk.specs.declared.entry.NoSuchStep.{NoSuchStep}

abbrev pub empty_counted : Counted
empty_counted = record { references = 0; anchor = 0; serialized = 0 }

abbrev pub made : ℕ → ℕ → Step
made what node = record { what = what; node = node }

abbrev pub empty_step : Step
empty_step = made 0 0

-- the number of a kind of steps
abbrev pub step_number : StepKind → ℕ
step_number First = 1
step_number Again = 2
step_number Leave = 3

-- the kind of that number
abbrev pub kind_of : ℕ → Option StepKind
kind_of what = cond (what == 1) (Some First) (cond (what == 2) (Some Again) (cond (what == 3) (Some Leave) None))

-- the kind of that number, or that there is none
abbrev pub StepKindOf : ℕ → Result StepKind NoSuchStep → Type 0
StepKindOf what (Ok k) = kind_of what ≡ Some k
StepKindOf what (Err e) = (e.0 ≡ what) × (kind_of what ≡ None)

-- the entry of a node; the empty one of what is no node
abbrev pub entry_at : List Counted → ℕ → Counted
entry_at t zero = empty_counted
entry_at t (suc k) = slice_index_or t k empty_counted

-- the table with another entry for a node
abbrev pub replaced : List Counted → ℕ → Counted → List Counted
replaced t zero c = t
replaced t (suc k) c = slice_set t k c

-- the number of the anchor that an entry tells, if it tells one
abbrev pub number_in : Counted → Option ℕ
number_in c = cond (c.anchor == 0) None (Some c.anchor)
