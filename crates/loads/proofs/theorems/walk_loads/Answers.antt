use Rattle.loads.proofs.theorems.walk_loads.Goals as goal
use Rattle.loads.proofs.Written.{walk_loads}

pub returns : goal.returns
returns c = walk_loads
