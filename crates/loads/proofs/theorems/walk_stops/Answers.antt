use Rattle.loads.proofs.theorems.walk_stops.Goals as goal
use Rattle.loads.proofs.Written.{walk_stops}

pub returns : goal.returns
returns c = walk_stops
