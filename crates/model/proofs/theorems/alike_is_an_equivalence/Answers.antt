use Rattle.model.proofs.Alike.{alike_same, alike_back, alike_on}
use Rattle.model.proofs.theorems.alike_is_an_equivalence.Goals as goal

pub returns : goal.returns
returns c = record { same = alike_same; back = λ a b s. alike_back s; on = λ a b d s t. alike_on s t }
