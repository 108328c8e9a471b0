use Rattle.std.proofs.Common.{cond, [], ◌∷◌, ◌++◌}
use Rattle.std.proofs.lemmas.Result.{err_from_is_err_and}
use Rattle.model.specs.declared.EventKind.TheVariants.{DocumentStart, DocumentEnd}
use Rattle.serial.specs.Numbering.{anchor_of}
use Rattle.serial.specs.Serialize.{plain}
use Rattle.document.specs.Books.{book_of}
use Rattle.runs.specs.Writer.{due_of, walk_dues}
use Rattle.dumper.specs.Steps.{tokens_of}
use Rattle.dumper.proofs.Eventful.{bound_told}
use Rattle.dumper.proofs.Handed.{all_of, hands_then, cut_before, hands_as, hands_left}
use Rattle.dumper.proofs.outlet.Outlet.dump_document.Goals as goal

pub returns-in_err-hand : goal.returns-in_err-hand
returns-in_err-hand g c =
    let b = book_of c.args.planned.now.d.now in
    let start = bound_told DocumentStart _ _ c.from.result _ c.plain-start.ensures c.from.ensures c.start_implicit.ensures in
    hands_left (err_from_is_err_and c.from_residual.result c.from_residual.ensures.1)
    (cut_before (walk_dues (anchor_of b.nodes) b.nodes (tokens_of c.args.planned.now.steps.now) ++ due_of 0 (plain DocumentEnd (cond b.end_implicit 1 0)) ∷ [])
    (hands_as start c.in_err-hand.ensures))

pub returns-in_err-dump_steps : goal.returns-in_err-dump_steps
returns-in_err-dump_steps g c =
    let b = book_of c.args.planned.now.d.now in
    let start = bound_told DocumentStart _ _ c.from.result _ c.plain-start.ensures c.from.ensures c.start_implicit.ensures in
    hands_left (err_from_is_err_and c.from_residual-in_err-dump_steps.result c.from_residual-in_err-dump_steps.ensures.1)
    (hands_then (all_of (hands_as start c.in_ok-hand.ensures))
    (cut_before (due_of 0 (plain DocumentEnd (cond b.end_implicit 1 0)) ∷ []) c.in_err-dump_steps.ensures))

pub returns : goal.returns
returns g c =
    let start = bound_told DocumentStart _ _ c.from.result _ c.plain-start.ensures c.from.ensures c.start_implicit.ensures in
    let end = bound_told DocumentEnd _ _ c.from-2.result _ c.plain-end.ensures c.from-2.ensures c.end_implicit.ensures in
    hands_then (all_of (hands_as start c.in_ok-hand.ensures)) (hands_then (all_of c.in_ok-dump_steps.ensures) (hands_as end c.hand-2.ensures))
