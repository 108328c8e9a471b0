use Rattle.dumper.proofs.Going.{start_goes}
use Rattle.dumper.proofs.writer.Writer.start.Goals as goal

pub returns-clause-wrote : goal.returns-clause-wrote
returns-clause-wrote g c = let self = c.args.self.now in start_goes self.opened _ self.closed self.spoilt c.hand_once.ensures.done c.hand_once.ensures.handed
