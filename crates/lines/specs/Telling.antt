-- The event that a line tells.
use Rattle.std.specs.Prelude.{◌≡◌, false, List, ℕ, Ok, Err, Result}
use Rattle.model.specs.declared.Cause.{Cause}
use Rattle.model.specs.declared.Cause.TheVariants.{NotALine}
use Rattle.model.specs.Events.{Ev}
use Rattle.lines.specs.declared.told.Told.{Told}
use Rattle.lines.specs.Line.{guess, is_line_of}

-- the event in its buffers
abbrev pub ev_told : Told → Ev
ev_told t = record { kind = t.kind; style = t.style; flags = t.flags; anchor = t.anchor; tag = t.tag; value = t.value }

-- the buffers have the event that the bytes seem to tell, or the bytes do not begin with the line of that event
abbrev pub Guessed : List ℕ → Told → Result (Unit {0}) Cause → Type 0
Guessed bs t (Ok u) = ev_told t ≡ guess bs
Guessed bs t (Err c) = (c ≡ NotALine) × (is_line_of (guess bs) bs ≡ false)
