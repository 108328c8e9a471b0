use Rattle.std.proofs.Common.{refl, arith}
use Rattle.model.specs.Reading.{reading}
use Rattle.lines.specs.Lawful.{short}
use Rattle.lines.proofs.writer.LineWriter.new.Goals as goal

pub invariant_of-result : goal.invariant_of-result
unfolding reading
invariant_of-result c = record { inside = omega arith; whole = refl }

pub returns : goal.returns
unfolding reading
returns c = record { taken = refl; room = omega arith; sizes = short }
