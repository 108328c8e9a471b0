-- Lists cut at the top of a stack.
use Rattle.std.proofs.Common.{◌≡◌, ℕ, List, length, take, sym, ap, ◌∙◌, ⊎_elim, arith}
use Rattle.std.proofs.lemmas.List.{length-take-le, take_all}
use Rattle.std.proofs.lemmas.Bool.{cases_lt}

-- what is held is cut at the number of entries held
pub held_take : {X : Type 0} (n k : ℕ) (xs : List X) → k ≡ length (take n xs) → take k xs ≡ take n xs
held_take n k xs e =
    ⊎_elim
    (λ below. let long = length-take-le n xs (omega arith) in let same : k ≡ n = omega arith in ap (λ m. take m xs) same)
    (λ past. let long = ap length (take_all n xs past) in take_all k xs (omega arith) ∙ sym (take_all n xs past))
    (cases_lt n (length xs))
