use Rattle.loads.proofs.theorems.deep_examples.Goals as goal
use Rattle.loads.proofs.Examples.{deep_examples}

pub returns : goal.returns
returns c = deep_examples
