use Rattle.std.proofs.Common.{◌≡◌, Err, subst, arith}
use Rattle.std.proofs.lemmas.Result.{err_from_is_err_and}
use Rattle.yaml.specs.Shapes.{ev_of}
use Rattle.convert.specs.Surveys.{Adds}
use Rattle.convert.proofs.Allowed.{came_allowed}
use Rattle.convert.proofs.Going.{whole_came, whole_over}
use Rattle.convert.proofs.Counting.{given_size, counted_more, survey_ended, survey_faulty, survey_short}
use Rattle.convert.proofs.survey.survey_each.Goals as goal

pub returns-in_err-whole : goal.returns-in_err-whole
returns-in_err-whole g c =
    let p = err_from_is_err_and c.from_residual.result c.from_residual.ensures.1 in
    rw (p.1, p.2)
    (survey_faulty g.K.Sink.weight (g.S.Source.flow c.args.source.now) c.loop-whole.tally.survey (g.S.Source.flow c.loop-whole.source) c.loop-whole.invariant
    c.in_err-whole.field-0.0 (g.S.Source.flow c.next_of.new.source) c.in_err-whole.ensures)

pub unwrap-size-requires : goal.unwrap-size-requires
unwrap-size-requires g c =
    let f = g.S.Source.flow c.loop-whole.source in
    let f' = g.S.Source.flow c.next_of.new.source in
    let came = whole_came f c.in_ok-whole.field-0 c.in-Some.whole f' c.in_ok-whole.ensures c.in-Some.is in
    let a = came_allowed f _ f' (g.S.Source.sound c.loop-whole.source) came in
    rw (c.size.ensures, given_size g.K.Sink.weight (ev_of c.in-Some.whole.event) a)

pub add-requires : goal.add-requires
add-requires g c =
    let f = g.S.Source.flow c.loop-whole.source in
    let f' = g.S.Source.flow c.next_of.new.source in
    let came = whole_came f c.in_ok-whole.field-0 c.in-Some.whole f' c.in_ok-whole.ensures c.in-Some.is in
    let a = came_allowed f _ f' (g.S.Source.sound c.loop-whole.source) came in
    let size = given_size g.K.Sink.weight (ev_of c.in-Some.whole.event) a in
    let heavy = (g.K.Sink.weighs (ev_of c.in-Some.whole.event) a).0 in
    let is : c.from.result ≡ g.K.Sink.weight (ev_of c.in-Some.whole.event) = cc in
    record { heavy = omega arith }

pub loop-whole-preserved : goal.loop-whole-preserved
loop-whole-preserved g c =
    let f = g.S.Source.flow c.loop-whole.source in
    let f' = g.S.Source.flow c.next_of.new.source in
    let came = whole_came f c.in_ok-whole.field-0 c.in-Some.whole f' c.in_ok-whole.ensures c.in-Some.is in
    let size = given_size g.K.Sink.weight (ev_of c.in-Some.whole.event) (came_allowed f _ f' (g.S.Source.sound c.loop-whole.source) came) in
    let is : c.from.result ≡ g.K.Sink.weight (ev_of c.in-Some.whole.event) = cc in
    counted_more g.K.Sink.weight (g.S.Source.flow c.args.source.now) c.loop-whole.tally.survey f c.loop-whole.invariant _ f' c.add.new.self.survey c.loop-whole.tally.ten came
    (rw is at c.in_ok-add.ensures)

pub returns-in_err-add : goal.returns-in_err-add
returns-in_err-add g c =
    let f = g.S.Source.flow c.loop-whole.source in
    let f' = g.S.Source.flow c.next_of.new.source in
    let came = whole_came f c.in_ok-whole.field-0 c.in-Some.whole f' c.in_ok-whole.ensures c.in-Some.is in
    let size = given_size g.K.Sink.weight (ev_of c.in-Some.whole.event) (came_allowed f _ f' (g.S.Source.sound c.loop-whole.source) came) in
    let is : c.from.result ≡ g.K.Sink.weight (ev_of c.in-Some.whole.event) = cc in
    let p = err_from_is_err_and c.from_residual-in_err-add.result c.from_residual-in_err-add.ensures.1 in
    rw (p.1, p.2)
    (survey_short g.K.Sink.weight (g.S.Source.flow c.args.source.now) c.loop-whole.tally.survey f c.loop-whole.invariant _ f' _ c.add.new.self.survey came
    (subst (λ n. Adds c.loop-whole.tally.survey (ev_of c.in-Some.whole.event) n (Err c.in_err-add.field-0.0) c.add.new.self.survey) is c.in_err-add.ensures))

pub returns : goal.returns
returns g c =
    let f = g.S.Source.flow c.loop-whole.source in
    let f' = g.S.Source.flow c.next_of.new.source in
    survey_ended g.K.Sink.weight (g.S.Source.flow c.args.source.now) c.loop-whole.tally.survey f c.loop-whole.invariant f' (whole_over f c.in_ok-whole.field-0 f' c.in_ok-whole.ensures c.in_default.is)
