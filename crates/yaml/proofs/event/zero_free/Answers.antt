use Rattle.std.proofs.Common.{◌+◌, not, ◌&&◌, get_or, drop, sym, ap, ◌∙◌}
use Rattle.std.proofs.lemmas.List.{at_drop_more, at_drop_all}
use Rattle.std.proofs.lemmas.Bool.{eq-eqb, ne_eqb}
use Rattle.model.specs.Events.{zero_free}
use Rattle.yaml.proofs.event.zero_free.Goals as goal

pub returns-then-b-eq0 : goal.returns-then-b-eq0
returns-then-b-eq0 c =
    let xs = c.args.bytes.now in
    let i = c.loop-b.b-index in
    sym (ap (λ t. not t && zero_free (drop (i + 1) xs)) (eq-eqb (get_or xs i 0) 0 c.if-b-eq0.true))
    ∙ sym (at_drop_more zero_free xs i 0 c.loop-b-test.true) ∙ c.loop-b.invariant

pub loop-b-preserved : goal.loop-b-preserved
loop-b-preserved c =
    let xs = c.args.bytes.now in
    let i = c.loop-b.b-index in
    sym (ap (λ t. not t && zero_free (drop (i + 1) xs)) (ne_eqb (get_or xs i 0) 0 c.if-b-eq0.false))
    ∙ sym (at_drop_more zero_free xs i 0 c.loop-b-test.true) ∙ c.loop-b.invariant

pub returns : goal.returns
returns c = sym (at_drop_all zero_free c.args.bytes.now c.loop-b.b-index c.loop-b-test.false) ∙ c.loop-b.invariant
