use Rattle.loads.proofs.theorems.composed_walk.Goals as goal
use Rattle.loads.proofs.Order.{composed_walk}

pub returns : goal.returns
returns c = composed_walk
