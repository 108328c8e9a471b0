use Rattle.std.proofs.Common.{arith}
use Rattle.composer.proofs.Opening.{one_less}
use Rattle.composer.proofs.frames.Frames.pop.Goals as goal

pub returns-then-self-gt0 : goal.returns-then-self-gt0
returns-then-self-gt0 c = one_less c.args.self.now.count c.args.self.now.all (omega arith) (omega arith)
