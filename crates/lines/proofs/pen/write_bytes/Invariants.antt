use Rattle.std.proofs.Common.{◌+◌, ◌≤◌, length, take}
use Rattle.lines.specs.Line.{escape}
use Rattle.lines.proofs.pen.write_bytes.Given as goal

-- the bytes so far are written, and took no more room than they have
abbrev pub invariant-loop-b : goal.invariant-loop-b
invariant-loop-b g l = record {
  wrote : g.P.Pen.wrote l.initial.pen (escape (take l.b-index l.text)) l.pen;
  room : g.P.Pen.room l.initial.pen ≤ g.P.Pen.room l.pen + length (escape (take l.b-index l.text));
}
