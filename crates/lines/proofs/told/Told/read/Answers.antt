use Rattle.std.proofs.Common.{◌≡◌, length, drop, refl, ap, ◌∙◌, arith}
use Rattle.std.proofs.lemmas.List.{take_rest}
use Rattle.std.proofs.lemmas.Result.{err_from_is_err_and}
use Rattle.lines.specs.Line.{part_text, part_rest, guess}
use Rattle.lines.proofs.Guessing.{too_short, too_long}
use Rattle.lines.proofs.told.Told.read.Goals as goal

pub returns-in_default : goal.returns-in_default
returns-in_default c = (refl, too_short (guess c.args.bytes.now) c.args.bytes.now (omega arith))

pub returns-in_err-parts : goal.returns-in_err-parts
unfolding guess
returns-in_err-parts c =
    let bs = c.args.bytes.now in
    let p = err_from_is_err_and c.from_residual.result c.from_residual.ensures.1 in
    let l = c.in_err-parts.ensures in
    rw (p.1, p.2) (l.cause, too_long (guess bs) bs (λ f. omega (arith, l.longer, f.anchor, ap (λ r. length (part_text 38 r)) (take_rest bs 8))))

pub returns-in_err-parts-2 : goal.returns-in_err-parts-2
unfolding guess
returns-in_err-parts-2 c =
    let bs = c.args.bytes.now in
    let p = err_from_is_err_and c.from_residual-in_err-parts-2.result c.from_residual-in_err-parts-2.ensures.1 in
    let l = c.in_err-parts-2.ensures in
    let second : c.in_ok-parts.parts.now ≡ part_rest 38 (drop 8 bs) = c.in_ok-parts.ensures.rest ∙ ap (part_rest 38) (take_rest bs 8) in
    rw (p.1, p.2) (l.cause, too_long (guess bs) bs (λ f. omega (arith, l.longer, f.tag, ap (λ r. length (part_text 60 r)) second)))

pub returns-in_err-read_part : goal.returns-in_err-read_part
unfolding guess
returns-in_err-read_part c =
    let bs = c.args.bytes.now in
    let p = err_from_is_err_and c.from_residual-in_err-read_part.result c.from_residual-in_err-read_part.ensures.1 in
    let l = c.in_err-read_part.ensures in
    let second : c.in_ok-parts.parts.now ≡ part_rest 38 (drop 8 bs) = c.in_ok-parts.ensures.rest ∙ ap (part_rest 38) (take_rest bs 8) in
    let third : c.in_ok-parts-2.parts.now ≡ part_rest 60 (part_rest 38 (drop 8 bs)) = c.in_ok-parts-2.ensures.rest ∙ ap (part_rest 60) second in
    rw (p.1, p.2) (l.cause, too_long (guess bs) bs (λ f. omega (arith, l.longer, f.value, ap (λ r. length (part_text 58 r)) third)))

pub returns : goal.returns
unfolding guess
returns c =
    let bs = c.args.bytes.now in
    let first = take_rest bs 8 in
    let second : c.in_ok-parts.parts.now ≡ part_rest 38 (drop 8 bs) = c.in_ok-parts.ensures.rest ∙ ap (part_rest 38) first in
    let third : c.in_ok-parts-2.parts.now ≡ part_rest 60 (part_rest 38 (drop 8 bs)) = c.in_ok-parts-2.ensures.rest ∙ ap (part_rest 60) second in
    λ i. record {
      kind = c.seeming_kind-self.ensures i;
      style = c.saturating_sub-self.ensures i;
      flags = c.saturating_sub-self-2.ensures i;
      anchor = (c.in_ok-parts.ensures.text ∙ ap (part_text 38) first) i;
      tag = (c.in_ok-parts-2.ensures.text ∙ ap (part_text 60) second) i;
      value = (c.in_ok-read_part.ensures.text ∙ ap (part_text 58) third) i;
    }
