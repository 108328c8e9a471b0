use Rattle.std.proofs.Common.{refl, arith}
use Rattle.model.specs.Reading.{reading}
use Rattle.packed.proofs.writer.PackedWriter.new.Goals as goal

pub invariant_of-result : goal.invariant_of-result
unfolding reading
invariant_of-result c = record { inside = omega arith; whole = refl }

pub returns-clause-taken : goal.returns-clause-taken
unfolding reading
returns-clause-taken c = refl
