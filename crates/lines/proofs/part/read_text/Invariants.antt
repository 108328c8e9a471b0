use Rattle.std.proofs.Common.{length}
use Rattle.lines.proofs.Unescaping.{ReadSoFar}
use Rattle.lines.proofs.part.read_text.Given as goal

abbrev pub invariant-bytes : goal.invariant-bytes
invariant-bytes g l = ReadSoFar l.bytes l.text l.rest

abbrev pub decreases-bytes : goal.decreases-bytes
decreases-bytes g l = length l.rest
