use Rattle.dumper.proofs.Going.{end_goes}
use Rattle.dumper.proofs.writer.Writer.finish.Goals as goal

pub returns-clause-wrote : goal.returns-clause-wrote
returns-clause-wrote g c = let self = c.args.self.now in end_goes self.opened self.closed _ self.spoilt c.hand_once.ensures.done c.hand_once.ensures.handed
