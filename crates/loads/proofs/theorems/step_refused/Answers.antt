use Rattle.loads.proofs.theorems.step_refused.Goals as goal
use Rattle.loads.proofs.Refusing.{step_refused}

pub returns : goal.returns
returns c = step_refused
