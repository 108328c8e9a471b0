use Rattle.loads.proofs.theorems.composed_led.Goals as goal
use Rattle.loads.proofs.Order.{composed_led}

pub returns : goal.returns
returns c = composed_led
