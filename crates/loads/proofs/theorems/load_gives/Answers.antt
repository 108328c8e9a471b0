use Rattle.loads.proofs.theorems.load_gives.Goals as goal
use Rattle.loads.proofs.Loads.{load_gives}

pub returns : goal.returns
returns c = load_gives
