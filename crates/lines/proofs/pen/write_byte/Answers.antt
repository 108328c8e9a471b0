use Rattle.std.proofs.Common.{sym, subst}
use Rattle.lines.proofs.pen.write_byte.Goals as goal

pub returns-in-Some-clause-wrote : goal.returns-in-Some-clause-wrote
returns-in-Some-clause-wrote g c = subst (λ xs. g.P.Pen.wrote c.args.pen.now xs c.put.new.self) (sym c.in-Some.ensures) c.put.ensures.wrote

pub returns-in-None-clause-wrote : goal.returns-in-None-clause-wrote
returns-in-None-clause-wrote g c = subst (λ xs. g.P.Pen.wrote c.args.pen.now xs c.put-in-None.new.self) (sym c.in-None.ensures) c.put-in-None.ensures.wrote
