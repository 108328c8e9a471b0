-- When some bytes do not begin with the line of an event.
use Rattle.std.proofs.Common.{◌≡◌, ◌<◌, ◌≤◌, ℕ, false, true, List, length, ap, ⊎_elim, arith}
use Rattle.std.proofs.lemmas.List.{length-take}
use Rattle.std.proofs.lemmas.Bool.{cases_Bool, and_left, and_right}
use Rattle.model.specs.Events.{Ev, allowed}
use Rattle.lines.specs.Line.{line_of, starts_with, is_line_of}
use Rattle.lines.specs.Lawful.{lengths, length_line, most, starts_take}

pub too_short : (e : Ev) (bs : List ℕ) → length bs < 9 → is_line_of e bs ≡ false
too_short e bs l =
    and_right (allowed e) _ (⊎_elim (λ h. absurd (omega (arith, ap length (starts_take (line_of e) bs h), length-take (length (line_of e)) bs, length_line e))) (λ h. h) (cases_Bool (starts_with (line_of e) bs)))

-- the texts of an allowed event
pub record TextsFit (e : Ev) : Type 0 where
  pub anchor : length e.anchor ≤ 64
  pub tag : length e.tag ≤ 256
  pub value : length e.value ≤ 4096

texts_fit : (e : Ev) → allowed e ≡ true → TextsFit e
texts_fit e h = let l = lengths e h in let m = most e.kind in record { anchor = omega arith; tag = omega arith; value = omega arith }

pub too_long : (e : Ev) (bs : List ℕ) → (TextsFit e → ⊥) → is_line_of e bs ≡ false
too_long e bs none = and_left (allowed e) _ (⊎_elim (λ h. absurd (none (texts_fit e h))) (λ h. h) (cases_Bool (allowed e)))
