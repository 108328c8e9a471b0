use Rattle.runs.proofs.theorems.law_of_runs.Goals as goal
use Rattle.runs.proofs.Lawful.{law}

pub returns : goal.returns
returns c = law
