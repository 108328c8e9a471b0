use Rattle.std.proofs.Common.{◌≡◌, ◌+◌, ◌≤◌, List, ℕ, ◌++◌, length}
use Rattle.lines.specs.Line.{escape}
use Rattle.lines.proofs.pen.write_runs.Given as goal

-- the front of what the text is when escaped is written, and the rest of it is what the bytes that are left are when escaped
abbrev pub invariant-text : goal.invariant-text
invariant-text g l =
    (done : List ℕ) × record {
      wrote : g.P.Pen.wrote l.initial.pen done l.pen;
      front : escape l.text ≡ done ++ escape l.rest;
      room : g.P.Pen.room l.initial.pen ≤ g.P.Pen.room l.pen + length done;
    }

abbrev pub decreases-text : goal.decreases-text
decreases-text g l = length l.rest
