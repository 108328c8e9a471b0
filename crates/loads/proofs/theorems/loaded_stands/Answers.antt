use Rattle.loads.proofs.theorems.loaded_stands.Goals as goal
use Rattle.loads.proofs.Standing.{loaded_stands}

pub returns : goal.returns
returns c = loaded_stands
