use Rattle.loads.proofs.theorems.composed_loads.Goals as goal
use Rattle.loads.proofs.Exactly.{composed_loads}

pub returns : goal.returns
returns c = composed_loads
