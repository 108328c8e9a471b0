use Rattle.std.proofs.Common.{sym, ap, ◌∙◌, arith}
use Rattle.std.proofs.lemmas.List.{take_all}
use Rattle.std.specs.List.{list_all}
use Rattle.document.proofs.Every.{node_right}
use Rattle.document.proofs.Faults.{all_right, first_fault}
use Rattle.document.proofs.check.cut.Cut.check_nodes.Goals as goal

pub returns-in-Some : goal.returns-in-Some
returns-in-Some c =
    first_fault c.args.self.now.nodes.now c.args.self.now.links.now c.args.self.now.text.now c.loop-i.i _ c.in-Some.question
    (omega arith) c.loop-i.invariant c.in-Some.ensures

pub returns : goal.returns
returns c =
    let vs = c.args.self.now.nodes.now in
    all_right vs c.args.self.now.links.now c.args.self.now.text.now
    (ap (list_all (node_right _ _ _)) (sym (take_all c.loop-i.i vs (omega arith))) ∙ c.loop-i.invariant)
