use Rattle.std.proofs.Common.{◌+◌, drop, arith}
use Rattle.std.proofs.lemmas.Result.{err_from_is_err_and}
use Rattle.serial.specs.Numbering.{anchor_of}
use Rattle.document.specs.Books.{book_of}
use Rattle.runs.specs.Writer.{walk_dues}
use Rattle.walk.specs.Entries.{empty_step}
use Rattle.dumper.specs.Steps.{tokens_of}
use Rattle.dumper.proofs.Eventful.{walk_allowed, step_allowed, dues_at, dues_more}
use Rattle.dumper.proofs.Handed.{all_then, all_of, all_as, hands_then, cut_before, hands_as, hands_left}
use Rattle.dumper.proofs.outlet.Outlet.dump_steps.Goals as goal

pub dump_step-requires : goal.dump_step-requires
dump_step-requires g c =
    let graph = (book_of c.args.planned.now.d.now).nodes in
    record {
      allowed = step_allowed (anchor_of graph) graph c.args.planned.now.steps.now c.loop-step.step-index empty_step (omega arith) (walk_allowed (book_of c.args.planned.now.d.now) (tokens_of c.args.planned.now.steps.now) c.args.planned.now.allowed);
      few = omega (arith, c.loop-step.invariant.few, c.requires);
    }

pub returns-in_err-dump_step : goal.returns-in_err-dump_step
returns-in_err-dump_step g c =
    let graph = (book_of c.args.planned.now.d.now).nodes in
    hands_left (err_from_is_err_and c.from_residual.result c.from_residual.ensures.1)
    (hands_as (dues_at (anchor_of graph) graph c.args.planned.now.steps.now c.loop-step.step-index empty_step (omega arith))
    (cut_before (walk_dues (anchor_of graph) graph (tokens_of (drop (c.loop-step.step-index + 1) c.args.planned.now.steps.now))) (hands_then c.loop-step.invariant c.in_err-dump_step.ensures)))

pub loop-step-preserved : goal.loop-step-preserved
loop-step-preserved g c =
    let graph = (book_of c.args.planned.now.d.now).nodes in
    all_as (dues_more (anchor_of graph) graph c.args.planned.now.steps.now c.loop-step.step-index empty_step (omega arith)) (all_then c.loop-step.invariant (all_of c.in_ok-dump_step.ensures))
