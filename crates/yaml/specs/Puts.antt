-- Bytes put into a list from a place on; what does not fit is not put.
use Rattle.std.specs.Prelude.{◌≡◌, ℕ, ◌+◌, ◌≤◌, List, [], ◌∷◌, ◌++◌, length, take, drop, slice_set, refl}
use Rattle.std.proofs.Common.{arith, sym, ap, ap₂, ◌∙◌}
use Rattle.std.proofs.lemmas.List.{append_assoc, length-set, take-append-drop, take_more_set, drop-drop, drop-set-lt}

abbrev pub puts : List ℕ → ℕ → List ℕ → List ℕ
puts xs at [] = xs
puts xs at (b ∷ bs) = puts (slice_set xs at b) (at + 1) bs

-- where the bytes fit, they stand between what stood before them and what stood behind them
parts : (xs : List ℕ) (at end : ℕ) (bs : List ℕ) → end ≡ at + length bs → end ≤ length xs → take at xs ++ (bs ++ drop end xs) ≡ puts xs at bs
parts xs at end [] e l = ap (λ n. take at xs ++ drop n xs) (omega arith) ∙ take-append-drop at xs
parts xs at end (b ∷ bs) e l =
    sym (append_assoc (take at xs) (b ∷ []) (bs ++ drop end xs))
    ∙ (ap₂ (λ p q. p ++ (bs ++ q)) (sym (take_more_set xs at b (omega arith))) (sym (drop-set-lt end xs at b (omega arith)))
    ∙ parts (slice_set xs at b) (at + 1) end bs (omega arith) (omega (arith, length-set xs at b)))

-- after a write to the k places from `at` on
pub puts_mid : (xs ys bs : List ℕ) (at k : ℕ) → ys ≡ bs → k ≡ length bs → at + k ≤ length xs → take at xs ++ (ys ++ drop k (drop at xs)) ≡ puts xs at bs
puts_mid xs ys bs at k p e l = ap₂ (λ y r. take at xs ++ (y ++ r)) p (drop-drop k at xs) ∙ parts xs at (at + k) bs (omega arith) l

-- what stands behind the bytes is as it was
pub drop_puts : (n : ℕ) (xs : List ℕ) (at : ℕ) (bs : List ℕ) → at + length bs ≤ n → drop n (puts xs at bs) ≡ drop n xs
drop_puts n xs at [] l = refl
drop_puts n xs at (b ∷ bs) l = drop_puts n (slice_set xs at b) (at + 1) bs (omega arith) ∙ drop-set-lt n xs at b (omega arith)
