-- What the pens that count and that compare the bytes of a line mean.
use Rattle.std.specs.Prelude.{◌≡◌, ◌≢◌, ℕ, ◌+◌, ◌-◌, ◌≤◌, Bool, true, false, ◌&&◌, List, [], ◌++◌, length, drop, Some, None, Option, refl}
use Rattle.std.specs.Borrow.{Bor}
use Rattle.std.proofs.Common.{arith, sym, ap, ◌∙◌}
use Rattle.std.proofs.lemmas.List.{append_assoc, append_cancel_left, length-append, drop-drop}
use Rattle.model.specs.Events.{Ev}
use Rattle.lines.specs.declared.count.Count.{Count}
use Rattle.lines.specs.declared.compare.Compare.{Compare}
use Rattle.lines.specs.Line.{starts_with, line_of, is_line_of}
use Rattle.lines.specs.Lawful.{starts_both}

-- counting

abbrev pub Counted : Count → List ℕ → Count → Type 0
Counted s xs t = t.bytes ≡ s.bytes + length xs

abbrev pub uncounted : Count → ℕ
uncounted s = 65535 - s.bytes

pub count_nothing : (s : Count) → Counted s [] s
count_nothing s = omega arith

pub count_onward : (s t u : Count) (xs ys : List ℕ) → Counted s xs t → Counted t ys u → Counted s (xs ++ ys) u
count_onward s t u xs ys p q = omega (arith, length-append xs ys)

pub count_falls : (s t : Count) (xs : List ℕ) → Counted s xs t → uncounted s ≤ uncounted t + length xs
count_falls s t xs p = omega arith

-- comparing

-- some bytes were taken off the front of others, or those begin with something else
abbrev pub TakenOff : List ℕ → Option (Bor (List ℕ)) → Option (Bor (List ℕ)) → Type 0
TakenOff xs None None = Unit {0}
TakenOff xs None (Some after) = ⊥
TakenOff xs (Some before) None = (more : List ℕ) → before.now ≢ xs ++ more
TakenOff xs (Some before) (Some after) = before.now ≡ xs ++ after.now

abbrev pub Compared : Compare → List ℕ → Compare → Type 0
Compared s xs t = TakenOff xs s.left t.left

abbrev pub unbounded : Compare → ℕ
unbounded s = 65535

nothing_off : (left : Option (Bor (List ℕ))) → TakenOff [] left left
nothing_off None = tt
nothing_off (Some left) = refl

pub compare_nothing : (s : Compare) → Compared s [] s
compare_nothing s = nothing_off s.left

-- taking off some bytes and then others is taking off all of them
off_append : (xs ys : List ℕ) (s t u : Option (Bor (List ℕ))) → TakenOff xs s t → TakenOff ys t u → TakenOff (xs ++ ys) s u
off_append xs ys None None None p q = tt
off_append xs ys None None (Some u) p q = q
off_append xs ys None (Some t) u p q = absurd p
off_append xs ys (Some s) None None p q = λ more e. p (ys ++ more) (e ∙ append_assoc xs ys more)
off_append xs ys (Some s) None (Some u) p q = absurd q
off_append xs ys (Some s) (Some t) None p q = λ more e. q more (append_cancel_left xs t.now (ys ++ more) (sym p ∙ (e ∙ append_assoc xs ys more)))
off_append xs ys (Some s) (Some t) (Some u) p q = p ∙ (ap (λ l. xs ++ l) q ∙ sym (append_assoc xs ys u.now))

pub compare_onward : (s t u : Compare) (xs ys : List ℕ) → Compared s xs t → Compared t ys u → Compared s (xs ++ ys) u
compare_onward s t u xs ys p q = off_append xs ys s.left t.left u.left p q

pub compare_falls : (s t : Compare) (xs : List ℕ) → Compared s xs t → unbounded s ≤ unbounded t + length xs
compare_falls s t xs p = omega arith

and_true : (b : Bool) → b ≡ (b && true)
and_true true = refl
and_true false = refl

-- two comparisons in a row are one of all their bytes
both : (s t u : Bool) (at at' n : ℕ) (xs ys bs bs' : List ℕ) → n ≡ length xs → t ≡ (s && starts_with xs (drop at bs)) → (t ≡ true → at' ≡ at + n) → bs' ≡ bs → u ≡ (t && starts_with ys (drop at' bs')) → u ≡ (s && starts_with (xs ++ ys) (drop at bs))
both true true u at at' n xs ys bs bs' k p q b r =
    let place : drop at' bs' ≡ drop (length xs) (drop at bs) = ap (drop at') b ∙ (ap (λ m. drop m bs) (q refl ∙ ap (λ m. at + m) k) ∙ sym (drop-drop (length xs) at bs)) in
    cc (starts_both xs ys (drop at bs), p, r, place)
both true false u at at' n xs ys bs bs' k p q b r = cc (starts_both xs ys (drop at bs), p, r)
both false true u at at' n xs ys bs bs' k p q b r = cc
both false false u at at' n xs ys bs bs' k p q b r = r

-- whether the bytes begin with the line of an event, which is allowed, and how long that is
abbrev pub LineWithin : Ev → List ℕ → Option ℕ → Type 0
LineWithin e bs None = is_line_of e bs ≡ false
LineWithin e bs (Some n) = (is_line_of e bs ≡ true) × (n ≡ length (line_of e))

abbrev pub weight_of : Ev → ℕ
weight_of e = length (line_of e)
