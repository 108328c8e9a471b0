use Rattle.loads.proofs.theorems.load_composes.Goals as goal
use Rattle.loads.proofs.Running.{load_composes}

pub returns : goal.returns
returns c = load_composes
