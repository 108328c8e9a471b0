-- A text is read byte by byte into a buffer.
use Rattle.std.proofs.Common.{◌≡◌, ℕ, ◌<◌, ◌≤◌, List, [], ◌∷◌, ◌++◌, length, get_or, sym, ap, ◌∙◌, arith}
use Rattle.std.proofs.lemmas.List.{append_assoc, append-nil, length-append}
use Rattle.lines.specs.Line.{untext, past}
use Rattle.lines.specs.Texts.{untext_ends, past_ends, goes_on}
use Rattle.lines.specs.Parts.{Found}

-- what is held so far is the front of the text, and what is left tells the others
pub record ReadSoFar (bytes held rest : List ℕ) : Type 0 where
  pub text : untext 0 bytes ≡ held ++ untext 0 rest
  pub after : past 0 bytes ≡ past 0 rest

pub one_more : (bytes held held' rest rest' : List ℕ) (b : ℕ) → ReadSoFar bytes held rest → held' ≡ held ++ b ∷ [] → untext 0 rest ≡ b ∷ untext 0 rest' → past 0 rest ≡ past 0 rest' → ReadSoFar bytes held' rest'
one_more bytes held held' rest rest' b so h u p = record {
  text = so.text ∙ (ap (λ z. held ++ z) u ∙ (sym (append_assoc held (b ∷ []) (untext 0 rest')) ∙ ap (λ z. z ++ untext 0 rest') (sym h)));
  after = so.after ∙ p;
}

pub too_long : (bytes held rest : List ℕ) → ReadSoFar bytes held rest → 32 < get_or rest 0 0 → length held < length (untext 0 bytes)
too_long bytes held rest so h = omega (arith, ap length so.text, length-append held (untext 0 rest), (goes_on rest h).1)

pub all_read : (bytes held rest : List ℕ) → ReadSoFar bytes held rest → get_or rest 0 0 ≤ 32 → Found (untext 0 bytes) (past 0 bytes) held rest
all_read bytes held rest so h =
    let e : get_or rest 0 0 < 33 = omega arith in
    record { text = sym (so.text ∙ (ap (λ z. held ++ z) (untext_ends rest e) ∙ append-nil held)); rest = sym (so.after ∙ past_ends rest e) }
