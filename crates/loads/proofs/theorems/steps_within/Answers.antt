use Rattle.loads.proofs.theorems.steps_within.Goals as goal
use Rattle.loads.proofs.Keeping.{step_within}

pub returns : goal.returns
returns c = step_within
