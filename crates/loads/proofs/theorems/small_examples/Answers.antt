use Rattle.loads.proofs.theorems.small_examples.Goals as goal
use Rattle.loads.proofs.Examples.{small_examples}

pub returns : goal.returns
returns c = small_examples
