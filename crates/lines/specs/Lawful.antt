-- The lines are a format of events: what was written is read back, and only lines are read.
use Rattle.std.specs.Prelude.{◌≡◌, ℕ, ◌+◌, ◌-◌, ◌*◌, ◌<◌, ◌≤◌, Bool, true, false, ◌&&◌, List, [], ◌∷◌, ◌++◌, length, take, drop, ◌==◌, ◌≢◌, nat_le, slice_index_or, refl}
use Rattle.std.proofs.Common.{arith, sym, ap, ap₂, ◌∙◌, ⊎_elim}
use Rattle.std.proofs.lemmas.List.{append_assoc, length-append, take-append-drop, nil_from_length}
use Rattle.std.proofs.lemmas.Bool.{cases_Bool, cond-true, cond-false, leb-true, eq-eqb, eqb-true, and_parts, and_from}
use Rattle.model.specs.declared.EventKind.{EventKind}
use Rattle.model.specs.declared.EventKind.TheVariants.{StreamStart, StreamEnd, DocumentStart, DocumentEnd, Alias, Scalar, SequenceStart, SequenceEnd, MappingStart, MappingEnd}
use Rattle.model.specs.declared.Cause.TheVariants.{NotALine}
use Rattle.model.specs.Events.{Ev, Row, table, within, zero_free, allowed}
use Rattle.model.specs.Reading.{nothing, event, fault, Format}
use Rattle.lines.specs.Line.{word, escape, optional, value_part, digits, line_of, begins, part_text, part_rest, guess, starts_with, is_line_of, front_for, line_front, Refuses, Short}
use Rattle.lines.specs.Texts.{untext_escape, past_escape, length_escape}

-- beginning with some bytes

pub starts_append : (xs ys : List ℕ) → starts_with xs (xs ++ ys) ≡ true
starts_append [] ys = refl
starts_append (x ∷ xs) ys = and_from (x == x) _ (eq-eqb x x refl) (starts_append xs ys)

pub starts_take : (xs ys : List ℕ) → starts_with xs ys ≡ true → take (length xs) ys ≡ xs
starts_take [] ys h = refl
starts_take (x ∷ xs) [] h = cc
starts_take (x ∷ xs) (y ∷ ys) h =
    let p = and_parts (x == y) (starts_with xs ys) h in
    ap₂ ◌∷◌ (sym (eqb-true x y p.0)) (starts_take xs ys p.1)

and_assoc : (a b c : Bool) → (a && (b && c)) ≡ ((a && b) && c)
and_assoc true b c = refl
and_assoc false b c = refl

pub starts_both : (xs ys bs : List ℕ) → starts_with (xs ++ ys) bs ≡ (starts_with xs bs && starts_with ys (drop (length xs) bs))
starts_both [] ys bs = refl
starts_both (x ∷ xs) ys [] = refl
starts_both (x ∷ xs) ys (b ∷ bs) = ap (λ t. (x == b) && t) (starts_both xs ys bs) ∙ and_assoc (x == b) (starts_with xs bs) _

-- what an allowed event has

pub record Lengths (r : Row) (s f a t v : ℕ) : Type 0 where
  pub style : s ≤ r.most_style
  pub flags : f ≤ r.most_flags
  pub anchor : a ≤ r.most_anchor
  pub tag : t ≤ r.most_tag
  pub value : v ≤ r.most_value

pub within_lengths : (r : Row) (s f a t v : ℕ) → within r s f a t v ≡ true → Lengths r s f a t v
within_lengths r s f a t v h =
    let p = and_parts (nat_le s r.most_style) _ h in
    let q = and_parts (nat_le f r.most_flags) _ p.1 in
    let l = and_parts (nat_le r.least_anchor a) _ q.1 in
    let m = and_parts (nat_le a r.most_anchor) _ l.1 in
    let n = and_parts (nat_le t r.most_tag) (nat_le v r.most_value) m.1 in
    record { style = leb-true s _ p.0; flags = leb-true f _ q.0; anchor = leb-true a _ m.0; tag = leb-true t _ n.0; value = leb-true v _ n.1 }

pub lengths : (e : Ev) → allowed e ≡ true → Lengths (table e.kind) e.style e.flags (length e.anchor) (length e.tag) (length e.value)
lengths e a = within_lengths (table e.kind) e.style e.flags (length e.anchor) (length e.tag) (length e.value) (and_parts (within (table e.kind) e.style e.flags (length e.anchor) (length e.tag) (length e.value)) (zero_free e.anchor && zero_free e.tag) a).0

-- the greatest of the table
pub record Most (r : Row) : Type 0 where
  pub style : r.most_style ≤ 5
  pub flags : r.most_flags ≤ 3
  pub anchor : r.most_anchor ≤ 64
  pub tag : r.most_tag ≤ 256
  pub value : r.most_value ≤ 4096

pub most : (k : EventKind) → Most (table k)
most k = elim k as (λ v. Most (table v)) [
  | StreamStart ↦ record { style = omega arith; flags = omega arith; anchor = omega arith; tag = omega arith; value = omega arith }
  | _ ↦ record { style = omega arith; flags = omega arith; anchor = omega arith; tag = omega arith; value = omega arith }
]

-- style and flags are a digit each
pub small_digits : (e : Ev) → allowed e ≡ true → (e.style ≤ 9) × (e.flags ≤ 9)
small_digits e h = let l = lengths e h in let m = most e.kind in (omega arith, omega arith)

-- how long a line is

pub length_word : (k : EventKind) → length (word k) ≡ 4
length_word k = elim k as (λ v. length (word v) ≡ 4) [
  | StreamStart ↦ refl
  | _ ↦ refl
]

length_optional : (mark : ℕ) (text : List ℕ) → length (optional mark text) ≤ 2 + 3 * length text
length_optional mark [] = omega arith
length_optional mark (b ∷ text) = omega (arith, length_escape (b ∷ text))

length_value : (k : EventKind) (text : List ℕ) → length (value_part k text) ≤ 2 + 3 * length text
length_value k text = elim k as (λ v. length (value_part v text) ≤ 2 + 3 * length text) [
  | Scalar ↦ omega (arith, length_escape text)
  | _ ↦ omega arith
]

pub length_line : (e : Ev) → length (line_of e) ≡ 9 + length (optional 38 e.anchor) + length (optional 60 e.tag) + length (value_part e.kind e.value)
unfolding line_of
length_line e =
    let a : List ℕ = optional 38 e.anchor in
    let t : List ℕ = optional 60 e.tag in
    let v : List ℕ = value_part e.kind e.value in
    omega (arith, length-append (word e.kind) (digits e.style e.flags ++ (a ++ (t ++ (v ++ 10 ∷ [])))), length_word e.kind, length-append a (t ++ (v ++ 10 ∷ [])), length-append t (v ++ 10 ∷ []), length-append v (10 ∷ []))

pub short : Short
short e h =
    let l = lengths e h in
    let m = most e.kind in
    omega (arith, length_line e, length_optional 38 e.anchor, length_optional 60 e.tag, length_value e.kind e.value, l.anchor, l.tag, l.value, m.anchor, m.tag, m.value)

-- a part is read back, where what follows ends its text and is no such part itself

pub record Follows (mark : ℕ) (bs : List ℕ) : Type 0 where
  pub ends : slice_index_or bs 0 0 < 33
  pub other : begins mark bs ≡ false

marked_begins : (mark : ℕ) (bs : List ℕ) → begins mark (32 ∷ mark ∷ bs) ≡ true
marked_begins mark bs = eq-eqb mark mark refl

pub part_text_lem : (mark : ℕ) (text bs : List ℕ) → Follows mark bs → part_text mark (optional mark text ++ bs) ≡ text
part_text_lem mark [] bs f = cond-false (begins mark bs) _ _ f.other
part_text_lem mark (b ∷ text) bs f = cond-true (begins mark (32 ∷ mark ∷ (escape (b ∷ text) ++ bs))) _ _ (marked_begins mark (escape (b ∷ text) ++ bs)) ∙ untext_escape (b ∷ text) bs f.ends

pub part_rest_lem : (mark : ℕ) (text bs : List ℕ) → Follows mark bs → part_rest mark (optional mark text ++ bs) ≡ bs
part_rest_lem mark [] bs f = cond-false (begins mark bs) _ _ f.other
part_rest_lem mark (b ∷ text) bs f = cond-true (begins mark (32 ∷ mark ∷ (escape (b ∷ text) ++ bs))) _ _ (marked_begins mark (escape (b ∷ text) ++ bs)) ∙ past_escape (b ∷ text) bs f.ends

-- what follows the tag, and what follows the anchor
pub after_tag : (mark : ℕ) (k : EventKind) (value bs : List ℕ) → (58 == mark) ≡ false → Follows mark (value_part k value ++ 10 ∷ bs)
after_tag mark StreamStart value bs h = record { ends = omega arith; other = refl }
after_tag mark StreamEnd value bs h = record { ends = omega arith; other = refl }
after_tag mark DocumentStart value bs h = record { ends = omega arith; other = refl }
after_tag mark DocumentEnd value bs h = record { ends = omega arith; other = refl }
after_tag mark Alias value bs h = record { ends = omega arith; other = refl }
after_tag mark Scalar value bs h = record { ends = omega arith; other = h }
after_tag mark SequenceStart value bs h = record { ends = omega arith; other = refl }
after_tag mark SequenceEnd value bs h = record { ends = omega arith; other = refl }
after_tag mark MappingStart value bs h = record { ends = omega arith; other = refl }
after_tag mark MappingEnd value bs h = record { ends = omega arith; other = refl }

pub after_anchor : (tag bs : List ℕ) → Follows 38 bs → Follows 38 (optional 60 tag ++ bs)
after_anchor [] bs f = f
after_anchor (b ∷ tag) bs f = record { ends = omega arith; other = refl }

value_text : (k : EventKind) (value bs : List ℕ) → length value ≤ (table k).most_value → part_text 58 (value_part k value ++ 10 ∷ bs) ≡ value
value_text StreamStart value bs h = sym (nil_from_length value (omega arith))
value_text StreamEnd value bs h = sym (nil_from_length value (omega arith))
value_text DocumentStart value bs h = sym (nil_from_length value (omega arith))
value_text DocumentEnd value bs h = sym (nil_from_length value (omega arith))
value_text Alias value bs h = sym (nil_from_length value (omega arith))
value_text Scalar value bs h = untext_escape value (10 ∷ bs) (omega arith)
value_text SequenceStart value bs h = sym (nil_from_length value (omega arith))
value_text SequenceEnd value bs h = sym (nil_from_length value (omega arith))
value_text MappingStart value bs h = sym (nil_from_length value (omega arith))
value_text MappingEnd value bs h = sym (nil_from_length value (omega arith))

abbrev ev : EventKind → ℕ → ℕ → List ℕ → List ℕ → List ℕ → Ev
ev k s f a t v = record { kind = k; style = s; flags = f; anchor = a; tag = t; value = v }

abbrev told : EventKind → ℕ → ℕ → List ℕ → Ev
told k s f bs = ev k (48 + s - 48) (48 + f - 48) (part_text 38 bs) (part_text 60 (part_rest 38 bs)) (part_text 58 (part_rest 60 (part_rest 38 bs)))

guess_head : (k : EventKind) (s f : ℕ) (bs : List ℕ) → guess (word k ++ (digits s f ++ bs)) ≡ told k s f bs
unfolding guess
guess_head StreamStart s f bs = refl
guess_head StreamEnd s f bs = refl
guess_head DocumentStart s f bs = refl
guess_head DocumentEnd s f bs = refl
guess_head Alias s f bs = refl
guess_head Scalar s f bs = refl
guess_head SequenceStart s f bs = refl
guess_head SequenceEnd s f bs = refl
guess_head MappingStart s f bs = refl
guess_head MappingEnd s f bs = refl

same_ev : (k : EventKind) (s s' f f' : ℕ) (a a' t t' v v' : List ℕ) → s ≡ s' → f ≡ f' → a ≡ a' → t ≡ t' → v ≡ v' → ev k s f a t v ≡ ev k s' f' a' t' v'
same_ev k s s' f f' a a' t t' v v' p q x y z = ap (λ m. ev k m f a t v) p ∙ (ap (λ m. ev k s' m a t v) q ∙ (ap (λ m. ev k s' f' m t v) x ∙ (ap (λ m. ev k s' f' a' m v) y ∙ ap (λ m. ev k s' f' a' t' m) z)))

line_append : (e : Ev) (bs : List ℕ) → line_of e ++ bs ≡ word e.kind ++ (digits e.style e.flags ++ (optional 38 e.anchor ++ (optional 60 e.tag ++ (value_part e.kind e.value ++ 10 ∷ bs))))
unfolding line_of
line_append e bs = simp append_assoc

-- the event that the line of an allowed event tells
pub guess_line : (e : Ev) (bs : List ℕ) → allowed e ≡ true → guess (line_of e ++ bs) ≡ e
guess_line e bs h =
    let k : EventKind = e.kind in
    let V : List ℕ = value_part k e.value ++ 10 ∷ bs in
    let T : List ℕ = optional 60 e.tag ++ V in
    let A : List ℕ = optional 38 e.anchor ++ T in
    let fa : Follows 38 T = after_anchor e.tag V (after_tag 38 k e.value bs refl) in
    let ft : Follows 60 V = after_tag 60 k e.value bs refl in
    let ra : part_rest 38 A ≡ T = part_rest_lem 38 e.anchor T fa in
    let rt : part_rest 60 (part_rest 38 A) ≡ V = ap (part_rest 60) ra ∙ part_rest_lem 60 e.tag V ft in
    ap guess (line_append e bs) ∙ (guess_head k e.style e.flags A
    ∙ same_ev k (48 + e.style - 48) e.style (48 + e.flags - 48) e.flags (part_text 38 A) e.anchor (part_text 60 (part_rest 38 A)) e.tag (part_text 58 (part_rest 60 (part_rest 38 A))) e.value
    (omega arith) (omega arith) (part_text_lem 38 e.anchor T fa) (ap (part_text 60) ra ∙ part_text_lem 60 e.tag V ft) (ap (part_text 58) rt ∙ value_text k e.value bs (lengths e h).value))

-- the format

pub line_not_empty : (e : Ev) → 1 ≤ length (line_of e)
line_not_empty e = omega (arith, length_line e)

pub front_some : (bs : List ℕ) → 1 ≤ length bs → line_front bs ≡ front_for (guess bs) bs
unfolding line_front
front_some [] h = absurd (omega arith)
front_some (b ∷ bs) h = refl

front_none : line_front [] ≡ nothing
unfolding line_front
front_none = refl

front_line : (e : Ev) (bs : List ℕ) → is_line_of e bs ≡ true → front_for e bs ≡ event e (length (line_of e))
front_line e bs h = cond-true (is_line_of e bs) _ _ h

front_fault : (e : Ev) (bs : List ℕ) → is_line_of e bs ≡ false → front_for e bs ≡ fault NotALine
front_fault e bs h = cond-false (is_line_of e bs) _ _ h

reads_line : (e : Ev) (bs : List ℕ) → allowed e ≡ true → line_front (line_of e ++ bs) ≡ event e (length (line_of e))
reads_line e bs h =
    front_some (line_of e ++ bs) (omega (arith, length-append (line_of e) bs, line_not_empty e))
    ∙ (ap (λ g. front_for g (line_of e ++ bs)) (guess_line e bs h) ∙ front_line e (line_of e ++ bs) (and_from (allowed e) (starts_with (line_of e) (line_of e ++ bs)) h (starts_append (line_of e) bs)))

only_line : (e g : Ev) (n : ℕ) (bs : List ℕ) → front_for g bs ≡ event e n → (allowed e ≡ true) × (n ≡ length (line_of e)) × (take n bs ≡ line_of e)
only_line e g n bs h = ⊎_elim line other (cases_Bool (is_line_of g bs))
  where
    line : is_line_of g bs ≡ true → (allowed e ≡ true) × (n ≡ length (line_of e)) × (take n bs ≡ line_of e)
    line i =
        let p = and_parts (allowed g) (starts_with (line_of g) bs) i in
        let s : event g (length (line_of g)) ≡ event e n = sym (front_line g bs i) ∙ h in
        let same : g ≡ e = cc in
        let long : length (line_of g) ≡ n = cc in
        (ap allowed (sym same) ∙ p.0, sym long ∙ ap (λ x. length (line_of x)) same, ap (λ m. take m bs) (sym long) ∙ (starts_take (line_of g) bs p.1 ∙ ap line_of same))

    other : is_line_of g bs ≡ false → (allowed e ≡ true) × (n ≡ length (line_of e)) × (take n bs ≡ line_of e)
    other i = let s : fault NotALine ≡ event e n = sym (front_fault g bs i) ∙ h in cc

only_lines : (e : Ev) (n : ℕ) (bs : List ℕ) → line_front bs ≡ event e n → (allowed e ≡ true) × (n ≡ length (line_of e)) × (take n bs ≡ line_of e)
only_lines e n [] h = let s : nothing ≡ event e n = sym front_none ∙ h in cc
only_lines e n (b ∷ bs) h = only_line e (guess (b ∷ bs)) n (b ∷ bs) (sym (front_some (b ∷ bs) (omega arith)) ∙ h)

nothing_empty : (bs : List ℕ) → line_front bs ≡ nothing → bs ≡ []
nothing_empty [] h = refl
nothing_empty (b ∷ bs) h = ⊎_elim (λ i. let s : event g (length (line_of g)) ≡ nothing = sym (front_line g (b ∷ bs) i) ∙ f in cc) (λ i. let s : fault NotALine ≡ nothing = sym (front_fault g (b ∷ bs) i) ∙ f in cc) (cases_Bool (is_line_of g (b ∷ bs)))
  where
    g : Ev
    g = guess (b ∷ bs)

    f : front_for (guess (b ∷ bs)) (b ∷ bs) ≡ nothing
    f = sym (front_some (b ∷ bs) (omega arith)) ∙ h

pub lines_format : Format line_of line_front
lines_format = record { reads_back = reads_line; only_written = only_lines; not_empty = line_not_empty; nothing_is_empty = front_none; empty_is_nothing = nothing_empty }

-- when a fault is told

pub refuses : Refuses
refuses = record {
  some_bytes = λ bs h e. let s : nothing ≡ fault NotALine = sym front_none ∙ (ap line_front (sym e) ∙ h) in cc;
  no_line = λ bs h e more a is. let s : event e (length (line_of e)) ≡ fault NotALine = sym (reads_line e more a) ∙ (ap line_front (sym is) ∙ h) in cc;
  only_then = no_other;
}
  where
    no_other : (bs : List ℕ) → (bs ≢ []) → ((e : Ev) (more : List ℕ) → allowed e ≡ true → bs ≢ line_of e ++ more) → line_front bs ≡ fault NotALine
    no_other [] some none = absurd (some refl)
    no_other (b ∷ bs) some none =
        let g : Ev = guess (b ∷ bs) in
        front_some (b ∷ bs) (omega arith)
        ∙ ⊎_elim (λ i. let p = and_parts (allowed g) (starts_with (line_of g) (b ∷ bs)) i in
        absurd (none g (drop (length (line_of g)) (b ∷ bs)) p.0 (sym (take-append-drop (length (line_of g)) (b ∷ bs)) ∙ ap (λ l. l ++ drop (length (line_of g)) (b ∷ bs)) (starts_take (line_of g) (b ∷ bs) p.1))))
        (front_fault g (b ∷ bs)) (cases_Bool (is_line_of g (b ∷ bs)))
