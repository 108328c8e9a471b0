use Rattle.loads.proofs.theorems.stops_within.Goals as goal
use Rattle.loads.proofs.Exactly.{stops_within}

pub returns : goal.returns
returns c = stops_within
