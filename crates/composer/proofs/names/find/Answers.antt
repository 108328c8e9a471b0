use Rattle.std.proofs.Common.{◌≡◌, ◌<◌, get_or, ◌∙◌, arith}
use Rattle.composer.proofs.Finding.{absent_anchor, passed_size, passed_byte, found_here}
use Rattle.composer.proofs.names.find.Goals as goal

pub anchors-preserved-then-size-name : goal.anchors-preserved-then-size-name
anchors-preserved-then-size-name c = (
  passed_size c.args.anchors.now c.anchors.anchor-index c.args.name.now c.anchors-test.true c.space-size.result c.space-size.ensures c.if-size-name.true
      ∙ c.anchors.invariant.0,
  c.anchors.invariant.1,
)

pub anchors-preserved : goal.anchors-preserved
anchors-preserved c =
    let is = c.space-size.ensures in
    let at = c.loop-i-test.true in
    let within : c.loop-i.i < (get_or c.args.anchors.now c.anchors.anchor-index absent_anchor).size = omega arith in (
      passed_byte c.args.anchors.now c.anchors.anchor-index c.args.name.now c.anchors-test.true c.loop-i.i within c.if-bytes-i.true
          ∙ c.anchors.invariant.0,
      c.anchors.invariant.1,
    )

pub returns-after-loop-i : goal.returns-after-loop-i
returns-after-loop-i c =
    let end : c.space-size.result ≡ c.loop-i.i = omega arith in
    found_here c.args.anchors.now c.anchors.anchor-index c.args.name.now c.anchors-test.true c.space-size.result c.loop-i.i c.space-size.ensures c.if-size-name.false end c.loop-i.invariant
    ∙ c.anchors.invariant.0
