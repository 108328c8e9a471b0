use Rattle.loads.proofs.theorems.composed_order.Goals as goal
use Rattle.loads.proofs.Order.{composed_order}

pub returns : goal.returns
returns c = composed_order
