use Rattle.std.proofs.Common.{◌+◌, get_or, drop, set, sym, ap, ◌∙◌, add_assoc}
use Rattle.std.proofs.lemmas.List.{length-set, at_drop_more, at_drop_all}
use Rattle.yaml.specs.Puts.{puts}
use Rattle.packed.proofs.writer.store.Goals as goal

pub loop-i-preserved : goal.loop-i-preserved
loop-i-preserved c =
    let bs = c.args.bytes.now in
    let i = c.loop-i.i in
    let at = c.args.at + i in
    let b = get_or bs i 0 in (
      ap (λ k. puts (set c.loop-i.out at b) k (drop (i + 1) bs)) (sym (add_assoc c.args.at i 1))
          ∙ sym (at_drop_more (puts c.loop-i.out at) bs i 0 c.loop-i-test.true) ∙ c.loop-i.invariant.0,
      length-set c.loop-i.out at b ∙ c.loop-i.invariant.1,
    )

pub returns : goal.returns
returns c = sym (at_drop_all (puts c.loop-i.out (c.args.at + c.loop-i.i)) c.args.bytes.now c.loop-i.i c.loop-i-test.false) ∙ c.loop-i.invariant.0
