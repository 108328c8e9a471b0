use Rattle.loads.proofs.theorems.steps_compose.Goals as goal
use Rattle.loads.proofs.Steps.{step_composes}

pub returns : goal.returns
returns c = step_composes
