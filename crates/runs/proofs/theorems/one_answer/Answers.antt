use Rattle.runs.proofs.theorems.one_answer.Goals as goal
use Rattle.runs.proofs.Always.{one_answer}

pub returns : goal.returns
returns c = one_answer
