-- Frames cut at the innermost open one.
use Rattle.std.proofs.Common.{◌≡◌, ℕ, ◌+◌, ◌-◌, ◌<◌, ◌≤◌, List, [], ◌∷◌, false, reverse, length, get_or, take, sym, ap, ◌∙◌, arith}
use Rattle.std.proofs.lemmas.List.{reverse-append, take_more}
use Rattle.composer.specs.declared.frames.Frame.{Frame}
use Rattle.composer.specs.Opens.{outer}

-- all but the innermost of the first n
pub one_less : (n : ℕ) (fs : List Frame) → 0 < n → n ≤ length fs → reverse (take (n - 1) fs) ≡ outer (reverse (take n fs))
one_less n fs some fits =
    let none : Frame = record { node = 0; children = 0; mapping = false } in
    let top = get_or fs (n - 1) none in
    let whole : (n - 1) + 1 ≡ n = omega arith in
    sym (ap (λ m. outer (reverse (take m fs))) (sym whole)
    ∙ ap (λ gs. outer (reverse gs)) (take_more fs (n - 1) none (omega arith))
    ∙ ap outer (reverse-append (take (n - 1) fs) (top ∷ [])))
