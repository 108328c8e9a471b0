-- What a list holds after bytes were put into it.
use Rattle.std.proofs.Common.{◌≡◌, ℕ, ◌+◌, ◌<◌, ◌≤◌, List, [], ◌∷◌, ◌++◌, length, take, set, sym, refl, ap, ◌∙◌, arith}
use Rattle.std.proofs.lemmas.List.{append-nil, append_assoc, length-set, take-set-le, take_more_set}
use Rattle.yaml.specs.Puts.{puts}

pub length_puts : (xs : List ℕ) (at : ℕ) (bs : List ℕ) → length (puts xs at bs) ≡ length xs
length_puts xs at [] = refl
length_puts xs at (b ∷ bs) = length_puts (set xs at b) (at + 1) bs ∙ length-set xs at b

-- what stands before the place is as it was
pub take_puts_before : (n : ℕ) (xs : List ℕ) (at : ℕ) (bs : List ℕ) → n ≤ at → take n (puts xs at bs) ≡ take n xs
take_puts_before n xs at [] l = refl
take_puts_before n xs at (b ∷ bs) l = take_puts_before n (set xs at b) (at + 1) bs (omega arith) ∙ take-set-le n xs at b l

-- up to their end there stand what was before the place, and the bytes
pub take_puts : (xs : List ℕ) (at : ℕ) (bs : List ℕ) (end : ℕ) → end ≡ at + length bs → end ≤ length xs → take end (puts xs at bs) ≡ take at xs ++ bs
take_puts xs at [] end e l = let same : end ≡ at = omega arith in ap (λ k. take k xs) same ∙ sym (append-nil (take at xs))
take_puts xs at (b ∷ bs) end e l =
    let room : at < length xs = omega arith in
    take_puts (set xs at b) (at + 1) bs end (omega arith) (simp length-set l)
    ∙ ap (λ p. p ++ bs) (take_more_set xs at b room) ∙ append_assoc (take at xs) (b ∷ []) bs
