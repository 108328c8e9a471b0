-- A text is escaped byte by byte.
use Rattle.std.proofs.Common.{◌≡◌, ℕ, zero, suc, ◌+◌, ◌/◌, ◌%◌, ◌<◌, ◌≤◌, true, false, List, [], ◌∷◌, ◌++◌, length, get_or, take, drop, Some, None, nat_lt, sym, refl, ap, ap₂, ◌∙◌, ⊎_elim, arith}
use Rattle.std.specs.List.{position, position_or_len}
use Rattle.std.proofs.lemmas.List.{append_assoc, append-nil, length-append, drop_more, drop_all, take_all, take_more, flat_map_more, take-append-drop}
use Rattle.std.proofs.lemmas.List.Quantifiers.{position-Some}
use Rattle.std.proofs.lemmas.List.Sums.{fails_before_first}
use Rattle.std.proofs.lemmas.Bool.{cases_Bool, cond-true, cond-false, ltb-false}
use Rattle.model.specs.Events.{Ev}
use Rattle.lines.specs.Line.{hex, escapes, escape_byte, escape, word, digits, optional, value_part, line_of}

pub escaped_byte : (b : ℕ) → escapes b ≡ true → escape_byte b ≡ 92 ∷ hex (b / 16) ∷ hex (b % 16) ∷ []
unfolding escape_byte
escaped_byte b h = cond-true (escapes b) _ _ h

pub same_byte : (b : ℕ) → escapes b ≡ false → escape_byte b ≡ b ∷ []
unfolding escape_byte
same_byte b h = cond-false (escapes b) _ _ h

-- bytes that stand as they are at the front of a text
plain_front : (i : ℕ) (xs : List ℕ) → ((k : ℕ) → k < i → escapes (get_or xs k 0) ≡ false) → escape xs ≡ take i xs ++ escape (drop i xs)
plain_front zero xs h = refl
plain_front (suc i) [] h = refl
plain_front (suc i) (x ∷ xs) h = ap₂ ◌++◌ (same_byte x (h 0 (omega arith))) (plain_front i xs (λ k l. h (suc k) (omega arith)))

-- how a text is escaped: the bytes up to the first that is, that one, and what follows it
pub record IsCut (text front back escaped after : List ℕ) : Type 0 where
  pub some : 1 ≤ length back
  pub whole : escape text ≡ (front ++ escaped) ++ escape after
  pub lengths : length (escape text) ≡ length front + (length escaped + length (escape after))

one_escaped : (back : List ℕ) (x : ℕ) (after : List ℕ) → back ≡ x ∷ after → escapes x ≡ true → escape back ≡ (92 ∷ hex (get_or back 0 0 / 16) ∷ hex (get_or back 0 0 % 16) ∷ []) ++ escape (drop 1 back)
one_escaped back x after is h = rw is (ap (λ l. l ++ escape after) (escaped_byte x h))

pub first_on : (text front back escaped after : List ℕ) (at : ℕ) → position escapes text ≡ Some at → front ≡ take at text → back ≡ drop at text → escaped ≡ 92 ∷ hex (get_or back 0 0 / 16) ∷ hex (get_or back 0 0 % 16) ∷ [] → after ≡ drop 1 back
    → IsCut text front back escaped after
first_on text front back escaped after at h f b e a =
    let p = position-Some escapes text at 0 h in
    let is : back ≡ get_or text at 0 ∷ drop (at + 1) text = b ∙ drop_more text at 0 p.0 in
    let whole : escape text ≡ (front ++ escaped) ++ escape after =
    plain_front at text p.2 ∙ (ap₂ (λ l m. l ++ escape m) (sym f) (sym b) ∙ (ap (λ l. front ++ l) (one_escaped back (get_or text at 0) (drop (at + 1) text) is p.1 ∙ ap₂ (λ l m. l ++ escape m) (sym e) (sym a)) ∙ sym (append_assoc front escaped (escape after)))) in
    record {
      some = omega (arith, ap length is);
      whole = whole;
      lengths = omega (arith, ap length whole, length-append (front ++ escaped) (escape after), length-append front escaped);
    }

-- where none is escaped
pub none_on : (xs : List ℕ) → position escapes xs ≡ None → escape xs ≡ xs
none_on xs h =
    let all : length xs ≤ position_or_len escapes xs = ⊎_elim (λ t. let s : position escapes xs ≡ Some (position_or_len escapes xs) = cond-true _ _ _ t in cc) (λ f. ltb-false _ _ f) (cases_Bool (nat_lt (position_or_len escapes xs) (length xs))) in
    plain_front (length xs) xs (λ k l. fails_before_first escapes xs k 0 (omega arith))
    ∙ (ap₂ (λ l m. l ++ escape m) (take_all (length xs) xs (omega arith)) (drop_all (length xs) xs (omega arith)) ∙ append-nil xs)

escape_append : (xs ys : List ℕ) → escape (xs ++ ys) ≡ escape xs ++ escape ys
escape_append [] ys = refl
escape_append (x ∷ xs) ys = ap (λ l. escape_byte x ++ l) (escape_append xs ys) ∙ sym (append_assoc (escape_byte x) (escape xs) (escape ys))

pub escape_more : (text : List ℕ) (i : ℕ) → i < length text → escape (take (i + 1) text) ≡ escape (take i text) ++ escape_byte (get_or text i 0)
escape_more text i h = ap escape (take_more text i 0 h) ∙ sym (flat_map_more escape_byte [] (take i text) (get_or text i 0))

-- what is escaped so far is no longer than the whole
escape_part : (text : List ℕ) (i : ℕ) → length (escape (take i text)) ≤ length (escape text)
escape_part text i =
    let whole : escape text ≡ escape (take i text) ++ escape (drop i text) = ap escape (sym (take-append-drop i text)) ∙ escape_append (take i text) (drop i text) in
    omega (arith, ap length whole, length-append (escape (take i text)) (escape (drop i text)))

-- there is room for the next byte of a text where there is room for what is left of it
pub next_fits : (text : List ℕ) (i room : ℕ) → i < length text → length (escape text) ≤ room + length (escape (take i text)) → length (escape_byte (get_or text i 0)) ≤ room
next_fits text i room h r = omega (arith, escape_part text (i + 1), ap length (escape_more text i h), length-append (escape (take i text)) (escape_byte (get_or text i 0)))

-- a line from its parts
pub line_parts : (e : Ev) → (word e.kind ++ digits e.style e.flags) ++ (optional 38 e.anchor ++ (optional 60 e.tag ++ (value_part e.kind e.value ++ 10 ∷ []))) ≡ line_of e
unfolding line_of
line_parts e = append_assoc (word e.kind) (digits e.style e.flags) (optional 38 e.anchor ++ (optional 60 e.tag ++ (value_part e.kind e.value ++ 10 ∷ [])))
