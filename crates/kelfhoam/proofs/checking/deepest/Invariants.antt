use Rattle.std.proofs.Common.{vec_len}
use Rattle.kelfhoam.proofs.checking.deepest.Given as goal

abbrev pub decreases-loop : goal.decreases-loop
decreases-loop l = vec_len l.open_ends
