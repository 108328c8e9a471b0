-- What the code finds at the front of its input.
use Rattle.std.specs.Prelude.{ℕ, ◌≤◌, Some, None, Ok, Err, Option, Result}
use Rattle.model.specs.declared.Cause.{Cause}
use Rattle.model.specs.Reading.{Front, nothing, event, fault}
use Rattle.yaml.specs.Shapes.{ev_of}
use Rattle.packed.specs.declared.head.Found.{Found}

abbrev pub found_of : Result Found Cause → Front
found_of (Ok f) = event (ev_of f.event) f.size
found_of (Err c) = fault c

abbrev pub front_of : Result (Option Found) Cause → Front
front_of (Ok None) = nothing
front_of (Ok (Some f)) = event (ev_of f.event) f.size
front_of (Err c) = fault c

-- an event that is found has a byte at least, and lies within the n bytes of the input
abbrev pub Inside : Result (Option Found) Cause → ℕ → Type 0
Inside (Ok None) n = Unit {0}
Inside (Ok (Some f)) n = (1 ≤ f.size) × (f.size ≤ n)
Inside (Err c) n = Unit {0}
