use Rattle.loads.proofs.theorems.loaded_marks.Goals as goal
use Rattle.loads.proofs.Marks.{loaded_marks}

pub returns : goal.returns
returns c = loaded_marks
