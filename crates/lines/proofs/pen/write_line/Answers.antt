use Rattle.std.proofs.Common.{subst}
use Rattle.yaml.specs.Shapes.{ev_of}
use Rattle.lines.proofs.Escaping.{line_parts}
use Rattle.lines.proofs.pen.write_line.Goals as goal

pub returns-clause-wrote : goal.returns-clause-wrote
returns-clause-wrote g c =
    let on = g.P.Pen.onward in
    subst (λ xs. g.P.Pen.wrote c.args.pen.now xs c.put.new.self) (line_parts (ev_of c.args.e.now))
    (on _ _ _ _ _ c.write_head.ensures.wrote (on _ _ _ _ _ c.write_optional.ensures.wrote (on _ _ _ _ _ c.write_optional-2.ensures.wrote (on _ _ _ _ _ c.write_value.ensures.wrote c.put.ensures.wrote))))
