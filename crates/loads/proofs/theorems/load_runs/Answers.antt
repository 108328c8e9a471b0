use Rattle.loads.proofs.theorems.load_runs.Goals as goal
use Rattle.loads.proofs.Loads.{load_runs}

pub returns : goal.returns
returns c = load_runs
