-- What stands at the front, from the event that the bytes seem to tell.
use Rattle.std.proofs.Common.{◌≡◌, ℕ, ◌≤◌, true, false, List, length, sym, refl, ap, ◌∙◌, arith}
use Rattle.std.proofs.lemmas.List.{length-take, nil_from_length}
use Rattle.std.proofs.lemmas.Bool.{cond-true, cond-false}
use Rattle.model.specs.declared.Cause.TheVariants.{NotALine}
use Rattle.model.specs.Events.{Ev}
use Rattle.model.specs.Reading.{nothing, event, fault}
use Rattle.lines.specs.Line.{line_of, guess, is_line_of, front_for, line_front}
use Rattle.lines.specs.Lawful.{front_some, line_not_empty, lines_format}

pub no_bytes : (bs : List ℕ) → length bs ≡ 0 → nothing ≡ line_front bs
no_bytes bs h = sym (ap line_front (nil_from_length bs h) ∙ lines_format.nothing_is_empty)

front_by : (bs : List ℕ) (e : Ev) → 1 ≤ length bs → e ≡ guess bs → line_front bs ≡ front_for e bs
front_by bs e l g = front_some bs l ∙ ap (λ x. front_for x bs) (sym g)

-- the bytes do not begin with the line of the event that they seem to tell
pub no_line : (bs : List ℕ) → 1 ≤ length bs → is_line_of (guess bs) bs ≡ false → fault NotALine ≡ line_front bs
no_line bs l h = sym (front_by bs (guess bs) l refl ∙ cond-false (is_line_of (guess bs) bs) _ _ h)

pub a_line : (bs : List ℕ) (e : Ev) (n : ℕ) → 1 ≤ length bs → e ≡ guess bs → (is_line_of e bs ≡ true) × (n ≡ length (line_of e)) → event e n ≡ line_front bs
a_line bs e n l g w = ap (event e) w.1 ∙ sym (front_by bs e l g ∙ cond-true (is_line_of e bs) _ _ w.0)

pub line_inside : (e : Ev) (n : ℕ) (bs : List ℕ) → event e n ≡ line_front bs → (1 ≤ n) × (n ≤ length bs)
line_inside e n bs h =
    let w = lines_format.only_written e n bs (sym h) in
    (omega (arith, w.1, line_not_empty e), omega (arith, ap length w.2, length-take n bs, w.1))
