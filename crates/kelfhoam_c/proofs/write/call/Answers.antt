use Rattle.std.proofs.Common.{length, refl, subst}
use Rattle.runs.specs.Writer.{dumping, Called}
use Rattle.dumper.specs.Answers.{answer_of}
use Rattle.dumper.specs.Calls.{handed}
use Rattle.dumper.specs.States.{state_of}
use Rattle.kelfhoam_c.specs.Writing.{opens, closes, dumps_nothing, dumps, no_document}
use Rattle.kelfhoam_c.proofs.Bare.{bare_book}
use Rattle.kelfhoam_c.proofs.write.call.Goals as goal

pub returns-in-111-clause-turned : goal.returns-in-111-clause-turned
returns-in-111-clause-turned g c = opens c.open.result c.in-111.is c.tell_call.ensures c.open.ensures.called

pub returns-in-99-clause-turned : goal.returns-in-99-clause-turned
returns-in-99-clause-turned g c = closes c.close.result c.in-99.is c.tell_call-in-99.ensures c.close.ensures.called

pub returns-in-101-clause-turned : goal.returns-in-101-clause-turned
returns-in-101-clause-turned g c =
    dumps_nothing c.dump.result c.in-101.is c.tell_call-in-101.ensures
    (subst (λ b. Called g.K.Sink.weight (dumping (handed b (length c.args.lent.now.counting.now) (length c.args.lent.now.steps.now))) (state_of g.K.Sink.view c.args.writer.now) (answer_of c.dump.result) (state_of g.K.Sink.view c.dump.new.self))
    (bare_book c.empty.result c.empty.ensures) c.dump.ensures.called)

pub returns-in-Ok-clause-turned : goal.returns-in-Ok-clause-turned
returns-in-Ok-clause-turned g c =
    let stood = c.in-Ok.ensures.stood in
    dumps c.dump-in-Ok.result c.in-100.is stood.fit c.tell_call-in-Ok.ensures
    (subst (λ b. Called g.K.Sink.weight (dumping (handed b (length c.args.lent.now.counting.now) (length c.args.lent.now.steps.now))) (state_of g.K.Sink.view c.args.writer.now) (answer_of c.dump-in-Ok.result) (state_of g.K.Sink.view c.dump-in-Ok.new.self))
    stood.book c.dump-in-Ok.ensures.called)

pub returns-in-Err-clause-turned : goal.returns-in-Err-clause-turned
returns-in-Err-clause-turned g c = no_document c.in-Err.refusal c.in-100.is c.in-Err.ensures.stood c.into.ensures refl
