use Rattle.loads.proofs.theorems.loaded_exactly.Goals as goal
use Rattle.loads.proofs.Exactly.{loaded_exactly}

pub returns : goal.returns
returns c = loaded_exactly
