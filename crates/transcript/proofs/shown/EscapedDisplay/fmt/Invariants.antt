-- What was written so far is what the line writer writes for the bytes so far; of a byte that is escaped, those of its three so far.
use Rattle.std.proofs.Common.{take}
use Rattle.std.specs.Fmt.{HasWritten, IsPlainFormatter}
use Rattle.lines.specs.Line.{escape as escape_text}
use Rattle.transcript.proofs.shown.EscapedDisplay.fmt.Given as goal

abbrev pub invariant-loop-b : goal.invariant-loop-b
invariant-loop-b g l = IsPlainFormatter l.fn.f → HasWritten g.W.Write.write_str_gives l.fn.f (escape_text (take l.b-index l.b-items)) l.f

abbrev pub invariant-loop-b-2 : goal.invariant-loop-b-2
invariant-loop-b-2 g l = IsPlainFormatter l.initial.f → HasWritten g.W.Write.write_str_gives l.initial.f (take l.b-index l.b-items) l.f
