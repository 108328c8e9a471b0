use Rattle.loads.proofs.theorems.steps_accepted.Goals as goal
use Rattle.loads.proofs.Accepting.{step_accepted}

pub returns : goal.returns
returns c = step_accepted
