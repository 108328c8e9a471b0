use Rattle.std.proofs.Common.{sym, subst}
use Rattle.std.proofs.lemmas.Bool.{eqb-true}
use Rattle.std.proofs.lemmas.List.{nil_from_length}
use Rattle.lines.proofs.pen.write_plain.Goals as goal

pub returns-else-not-is_empty-clause-wrote : goal.returns-else-not-is_empty-clause-wrote
returns-else-not-is_empty-clause-wrote g c = subst (λ xs. g.P.Pen.wrote c.args.pen.now xs c.args.pen.now) (sym (nil_from_length c.args.bytes.now (eqb-true _ _ (sym c.if-not-is_empty.ensures)))) (g.P.Pen.nothing _)
