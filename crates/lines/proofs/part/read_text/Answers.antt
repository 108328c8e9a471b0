use Rattle.std.proofs.Common.{◌≡◌, ◌<◌, get_or, drop, refl, ap, ◌∙◌, arith}
use Rattle.lines.specs.Line.{unescaped}
use Rattle.lines.specs.Texts.{untext_escaped, untext_plain, past_escaped, past_plain}
use Rattle.lines.proofs.Unescaping.{one_more, too_long, all_read}
use Rattle.lines.proofs.part.read_text.Goals as goal
use Rattle.lines.proofs.part.read_text.Goals.{in-92, in_default}

pub returns-in-0-to-32 : goal.returns-in-0-to-32
returns-in-0-to-32 g c = all_read _ _ _ c.bytes.invariant (omega arith)

pub returns-then-is_full : goal.returns-then-is_full
returns-then-is_full g c =
    let more : 32 < get_or c.bytes.rest.now 0 0 = elim c.match-byte_at.branch [ in-92 w ↦ omega arith | in_default w ↦ omega arith ] in
    record { cause = cc; longer = omega (arith, too_long _ _ _ c.bytes.invariant more, c.if-is_full.ensures.value.0 refl) }

pub bytes-preserved : goal.bytes-preserved
bytes-preserved g c =
    let rest = c.bytes.rest.now in
    elim c.match-byte_at.branch [
      | in-92 w ↦
          let e : get_or rest 0 0 ≡ 92 = cc in
          let h : 32 < get_or rest 0 0 = omega arith in
          let r : c.match-byte_at.byte.1.now ≡ drop 3 rest = ap (λ p. p.1.now) w.byte-is ∙ w.skip.ensures in
          let b : c.match-byte_at.byte.0 ≡ unescaped (get_or rest 1 0) (get_or rest 2 0) = ap (λ p. p.0) w.byte-is ∙ cc in
          one_more _ _ _ _ _ _ c.bytes.invariant c.push.ensures (cc (untext_escaped rest h e)) (cc (past_escaped rest h e))
      | in_default w ↦
          let h : 32 < get_or rest 0 0 = omega arith in
          let n : get_or rest 0 0 ≡ 92 → ⊥ = λ e. omega arith in
          let r : c.match-byte_at.byte.1.now ≡ drop 1 rest = ap (λ p. p.1.now) w.byte-is ∙ w.skip-in_default.ensures in
          let b : c.match-byte_at.byte.0 ≡ get_or rest 0 0 = ap (λ p. p.0) w.byte-is ∙ cc in
          one_more _ _ _ _ _ _ c.bytes.invariant c.push.ensures (cc (untext_plain rest h n)) (cc (past_plain rest h n))
    ]
