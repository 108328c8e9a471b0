use Rattle.runs.proofs.theorems.runs_hold.Goals as goal
use Rattle.runs.proofs.Holding.{runs_hold}

pub returns : goal.returns
returns c = runs_hold
