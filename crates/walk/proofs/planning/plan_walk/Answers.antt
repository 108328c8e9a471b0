use Rattle.std.proofs.Common.{sym, arith, rules}
use Rattle.std.proofs.lemmas.Result.{err_from_is_err_and}
use Rattle.document.specs.Books.{book_of}
use Rattle.walk.proofs.Planned.{deep, few_steps, unnamed, ready, ready_as, not_too_long}
use Rattle.walk.proofs.planning.plan_walk.Goals as goal

pub returns-in_err-dump_node-clause-plan : goal.returns-in_err-dump_node-clause-plan
returns-in_err-dump_node-clause-plan c =
    let e = err_from_is_err_and c.from_residual.result c.from_residual.ensures.1 in
    rw (e.1, e.2) (deep (book_of c.args.d.now) c.args.counting.now c.args.steps.now c.sound.ensures c.requires c.in_err-dump_node.ensures.visited)

pub returns-then-count-steps-clause-plan : goal.returns-then-count-steps-clause-plan
returns-then-count-steps-clause-plan c =
    let w = c.dump_node.new.self in
    few_steps (book_of c.args.d.now) c.args.counting.now w.counting.now c.args.steps.now w.steps.now w.count c.sound.ensures c.requires c.in_ok-dump_node.ensures.visited
    (omega (arith, c.if-count-steps.true, c.dump_node.ensures.tables.room))

pub returns-then-count-steps-clause-room : goal.returns-then-count-steps-clause-room
returns-then-count-steps-clause-room c =
    let w = c.dump_node.new.self in
    let long = not_too_long (book_of c.args.d.now) c.args.counting.now w.counting.now c.args.steps.now w.steps.now w.count c.sound.ensures c.in_ok-dump_node.ensures.visited in
    λ _. omega (arith, c.if-count-steps.true, c.dump_node.ensures.tables.room)

pub returns-in-Some-clause-plan : goal.returns-in-Some-clause-plan
returns-in-Some-clause-plan c =
    let w = c.dump_node.new.self in
    unnamed (book_of c.args.d.now) c.args.counting.now w.counting.now c.args.steps.now w.steps.now w.count c.in-Some.node c.sound.ensures c.requires c.in_ok-dump_node.ensures.visited
    (omega (arith, c.if-count-steps.false, c.dump_node.ensures.tables.room)) (sym c.in-Some.ensures)

pub returns-in-None-clause-plan : goal.returns-in-None-clause-plan
returns-in-None-clause-plan c =
    let w = c.dump_node.new.self in
    let same = c.dump_node.ensures.tables in
    ready_as (search rules) (search rules)
    (ready (book_of c.args.d.now) c.args.counting.now w.counting.now c.args.steps.now w.steps.now w.count c.sound.ensures c.requires c.in_ok-dump_node.ensures.visited
    (omega (arith, c.if-count-steps.false, c.dump_node.ensures.tables.room)) (sym c.in-None.ensures))
