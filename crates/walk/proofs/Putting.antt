-- Writing steps one after the other.
use Rattle.std.proofs.Common.{◌≡◌, ℕ, suc, ◌+◌, List, [], ◌∷◌, ◌++◌, length, set, sym, ap, ◌∙◌, arith}
use Rattle.serial.specs.Walk.{Token}
use Rattle.walk.specs.declared.entry.Step.{Step}
use Rattle.walk.specs.Going.{step_of, puts}

pub puts_append : (s : List Step) (at : ℕ) (ts us : List Token) → puts s at (ts ++ us) ≡ puts (puts s at ts) (at + length ts) us
puts_append s at [] us = let e : at ≡ at + 0 = omega arith in ap (λ k. puts s k us) e
puts_append s at (t ∷ ts) us =
    let e : suc at + length ts ≡ at + suc (length ts) = omega arith in
    puts_append (set s at (step_of t)) (suc at) ts us ∙ ap (λ k. puts (puts (set s at (step_of t)) (suc at) ts) k us) e

-- steps after those that were written already
pub puts_on : (s s' s'' : List Step) (at at' : ℕ) (ts us : List Token) → s' ≡ puts s at ts → at' ≡ at + length ts → s'' ≡ puts s' at' us → s'' ≡ puts s at (ts ++ us)
puts_on s s' s'' at at' ts us e f h =
    h ∙ ap (λ k. puts s' k us) f ∙ ap (λ (z : List Step). puts z (at + length ts) us) e ∙ sym (puts_append s at ts us)
