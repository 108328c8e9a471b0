-- What the code found at the front of its input.
use Rattle.std.specs.Prelude.{ℕ, ◌≤◌, Some, None, Option, Ok, Err, Result}
use Rattle.model.specs.declared.Cause.{Cause}
use Rattle.model.specs.Reading.{Front, nothing, event, fault}
use Rattle.lines.specs.declared.told.Told.{Told}
use Rattle.lines.specs.Telling.{ev_told}

abbrev pub front_of : Told → Result (Option ℕ) Cause → Front
front_of t (Ok None) = nothing
front_of t (Ok (Some size)) = event (ev_told t) size
front_of t (Err c) = fault c

-- a line that is found has a byte at least, and lies within the n bytes of the input
abbrev pub Inside : Result (Option ℕ) Cause → ℕ → Type 0
Inside (Ok None) n = Unit {0}
Inside (Ok (Some size)) n = (1 ≤ size) × (size ≤ n)
Inside (Err c) n = Unit {0}
