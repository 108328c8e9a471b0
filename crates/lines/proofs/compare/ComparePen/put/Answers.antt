use Rattle.std.proofs.Common.{refl}
use Rattle.std.proofs.lemmas.Bool.Decides.{Decides-eqb}
use Rattle.std.proofs.lemmas.Slice.Eq.{strip_prefix_is}
use Rattle.lines.proofs.Comparing.{off_some}
use Rattle.lines.proofs.compare.ComparePen.put.Goals as goal

pub returns-in-Some-clause-wrote : goal.returns-in-Some-clause-wrote
returns-in-Some-clause-wrote c =
    let xs = c.args.bytes.now in
    let found = c.strip_prefix-self.result in
    off_some xs c.args.self.now.left found found c.in-Some.left c.in-Some.is refl (strip_prefix_is Decides-eqb c.in-Some.left.now xs found c.strip_prefix-self.ensures.cases)
