use Rattle.loads.proofs.theorems.code_gives.Goals as goal
use Rattle.loads.proofs.Gives.{code_gives}

pub returns : goal.returns
returns c = code_gives
