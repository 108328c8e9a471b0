use Rattle.std.proofs.Common.{◌<◌, get_or, refl, ◌∙◌, subst, arith}
use Rattle.std.proofs.lemmas.List.{get_or-take, length-take}
use Rattle.dumper.specs.States.{state_of}
use Rattle.kelfhoam_c.specs.Writing.{lent_of, Turned}
use Rattle.kelfhoam_c.proofs.Calling.{chain_none, chain_more, rest_more}
use Rattle.kelfhoam_c.proofs.write.call_all.Goals as goal

pub loop-i-init : goal.loop-i-init
loop-i-init g c = record { chain = chain_none g.K.Sink.weight _ _ c.args.calls.now c.args.told.now; rest = refl; same = refl }

pub loop-i-preserved : goal.loop-i-preserved
loop-i-preserved g c =
    let d = lent_of c.args.lent.now in
    let i = c.loop-i.i in
    let before = state_of g.K.Sink.view c.loop-i.writer in
    let after = state_of g.K.Sink.view c.call.new.writer in
    let made = c.min-made.ensures in
    let long = length-take c.min-made.result c.args.calls.now in
    let below : i < c.min-made.result = omega arith in
    let letter = get_or-take c.min-made.result c.args.calls.now i 0 below in
    let turned = subst (λ l. Turned g.K.Sink.weight l (get_or c.args.calls.now i 0) before c.call.result after) c.loop-i.invariant.same
    (subst (λ b. Turned g.K.Sink.weight (lent_of c.loop-i.lent) b before c.call.result after) letter c.call.ensures.turned) in
    record {
      chain = chain_more g.K.Sink.weight d (state_of g.K.Sink.view c.args.writer.now) c.args.calls.now c.loop-i.told i c.call.result before after (omega arith) (omega (arith, c.loop-i.auto.told)) c.loop-i.invariant.chain turned;
      rest = rest_more c.loop-i.told c.args.told.now i c.call.result c.loop-i.invariant.rest;
      same = c.call.ensures.same ∙ c.loop-i.invariant.same;
    }
