use Rattle.std.proofs.lemmas.Result.{err_from_is_err_and}
use Rattle.convert.proofs.Allowed.{came_allowed}
use Rattle.convert.proofs.Going.{so_far_more, refused, at_end, at_fault, whole_came, whole_over}
use Rattle.convert.proofs.convert.hand_each.Goals as goal

pub returns-in_err-whole : goal.returns-in_err-whole
returns-in_err-whole g c =
    let p = err_from_is_err_and c.from_residual.result c.from_residual.ensures.1 in
    rw (p.1, p.2)
    (at_fault g.K.Sink.weight (g.S.Source.flow c.args.source.now) (g.K.Sink.view c.args.sink.now) c.loop-whole.events (g.S.Source.flow c.loop-whole.source) (g.K.Sink.view c.loop-whole.sink) c.loop-whole.invariant
    c.in_err-whole.field-0.0 (g.S.Source.flow c.next_of.new.source) c.in_err-whole.ensures)

pub returns-in_err-take : goal.returns-in_err-take
returns-in_err-take g c =
    let f = g.S.Source.flow c.loop-whole.source in
    let f' = g.S.Source.flow c.next_of.new.source in
    let came = whole_came f c.in_ok-whole.field-0 c.in-Some.whole f' c.in_ok-whole.ensures c.in-Some.is in
    let p = err_from_is_err_and c.from_residual-in_err-take.result c.from_residual-in_err-take.ensures.1 in
    rw (p.1, p.2)
    (refused g.K.Sink.weight (g.S.Source.flow c.args.source.now) (g.K.Sink.view c.args.sink.now) c.loop-whole.events f (g.K.Sink.view c.loop-whole.sink) c.loop-whole.invariant
    _ f' (g.K.Sink.view c.take.new.self) _ came (came_allowed f _ f' (g.S.Source.sound c.loop-whole.source) came) c.in_err-take.ensures)

pub loop-whole-preserved : goal.loop-whole-preserved
loop-whole-preserved g c =
    let f = g.S.Source.flow c.loop-whole.source in
    let f' = g.S.Source.flow c.next_of.new.source in
    let came = whole_came f c.in_ok-whole.field-0 c.in-Some.whole f' c.in_ok-whole.ensures c.in-Some.is in
    so_far_more g.K.Sink.weight (g.S.Source.flow c.args.source.now) (g.K.Sink.view c.args.sink.now) c.loop-whole.events f (g.K.Sink.view c.loop-whole.sink) c.loop-whole.invariant
    g.K.Sink.weighs _ f' (g.K.Sink.view c.take.new.self) came c.in_ok-take.ensures

pub returns : goal.returns
returns g c =
    let f = g.S.Source.flow c.loop-whole.source in
    let f' = g.S.Source.flow c.next_of.new.source in
    at_end g.K.Sink.weight (g.S.Source.flow c.args.source.now) (g.K.Sink.view c.args.sink.now) c.loop-whole.events f (g.K.Sink.view c.loop-whole.sink) c.loop-whole.invariant
    f' (whole_over f c.in_ok-whole.field-0 f' c.in_ok-whole.ensures c.in_default.is)
