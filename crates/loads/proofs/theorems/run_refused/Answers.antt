use Rattle.loads.proofs.theorems.run_refused.Goals as goal
use Rattle.loads.proofs.Refusing.{run_refused}

pub returns : goal.returns
returns c = run_refused
