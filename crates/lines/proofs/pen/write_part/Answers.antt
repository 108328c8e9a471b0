use Rattle.lines.proofs.pen.write_part.Goals as goal

pub returns-clause-wrote : goal.returns-clause-wrote
returns-clause-wrote g c = g.P.Pen.onward _ _ _ _ _ c.put.ensures.wrote c.write_text.ensures.wrote
