use Rattle.runs.proofs.theorems.one_reading.Goals as goal
use Rattle.runs.proofs.OneWay.{one_reading}

pub returns : goal.returns
returns c = one_reading
