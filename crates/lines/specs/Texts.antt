-- Escaping a text and reading it back.
use Rattle.std.specs.Prelude.{◌≡◌, ℕ, zero, suc, ◌+◌, ◌-◌, ◌*◌, ◌/◌, ◌%◌, ◌<◌, ◌≤◌, true, false, ◌&&◌, ◌||◌, List, [], ◌∷◌, ◌++◌, length, drop, ◌==◌, ◌≢◌, nat_le, nat_lt, slice_index, refl}
use Rattle.std.proofs.Common.{arith, ap, ◌∙◌, ⊎_elim}
use Rattle.std.proofs.lemmas.List.{append_assoc, length-append}
use Rattle.std.proofs.lemmas.Bool.{cases_Bool, cond-true, cond-false, ltb-true, eqb-true, eqb-false, lt-ltb, le-ltb, le-leb, lt-leb, eq-eqb, ne_eqb, cases_lt, or_cases, or_parts, and_parts}
use Rattle.lines.specs.Line.{hex, escapes, escape_byte, escape, unhex, unescaped, untext, past}

pub unhex_hex : (d : ℕ) → unhex (hex d) ≡ d
unhex_hex d = ⊎_elim small large (cases_lt d 10)
  where
    small : d < 10 → unhex (hex d) ≡ d
    small h = ap unhex (cond-true (nat_lt d 10) (48 + d) (55 + d) (lt-ltb d 10 h)) ∙ (cond-false (nat_le 65 (48 + d)) (48 + d - 55) (48 + d - 48) (lt-leb 65 (48 + d) (omega arith)) ∙ omega arith)

    large : 10 ≤ d → unhex (hex d) ≡ d
    large h = ap unhex (cond-false (nat_lt d 10) (48 + d) (55 + d) (le-ltb d 10 h)) ∙ (cond-true (nat_le 65 (55 + d)) (55 + d - 55) (55 + d - 48) (le-leb 65 (55 + d) (omega arith)) ∙ omega arith)

-- an escaped number is a byte
pub escapes_byte : (b : ℕ) → escapes b ≡ true → b < 256
escapes_byte b h = ⊎_elim (λ l. omega (arith, ltb-true b 33 l)) (λ r. ⊎_elim (λ s. ltb-true b 256 (and_parts (nat_lt 126 b) (nat_lt b 256) s).1) (λ e. omega (arith, eqb-true b 92 e)) (or_cases (nat_lt 126 b && nat_lt b 256) (b == 92) r)) (or_cases (nat_lt b 33) ((nat_lt 126 b && nat_lt b 256) || b == 92) h)

pub plain_byte : (b : ℕ) → escapes b ≡ false → (nat_lt b 33 ≡ false) × ((b == 92) ≡ false)
plain_byte b h =
    let p = or_parts (nat_lt b 33) ((nat_lt 126 b && nat_lt b 256) || b == 92) h in
    (p.0, (or_parts (nat_lt 126 b && nat_lt b 256) (b == 92) p.1).1)

pub unescape_byte : (b : ℕ) → b < 256 → unescaped (hex (b / 16)) (hex (b % 16)) ≡ b
unescape_byte b h =
    let x : unhex (hex (b / 16)) ≡ b / 16 = unhex_hex (b / 16) in
    let y : unhex (hex (b % 16)) ≡ b % 16 = unhex_hex (b % 16) in
    ap (λ u. (16 * u + unhex (hex (b % 16))) % 256) x ∙ (ap (λ v. (16 * (b / 16) + v) % 256) y ∙ omega arith)

-- one byte more of a text
pub untext_byte : (b : ℕ) (bs : List ℕ) → untext 0 (escape_byte b ++ bs) ≡ b ∷ untext 0 bs
unfolding untext escape_byte
untext_byte b bs = ⊎_elim escaped plain (cases_Bool (escapes b))
  where
    escaped : escapes b ≡ true → untext 0 (escape_byte b ++ bs) ≡ b ∷ untext 0 bs
    escaped h = ap (λ l. untext 0 (l ++ bs)) (cond-true (escapes b) (92 ∷ hex (b / 16) ∷ hex (b % 16) ∷ []) (b ∷ []) h) ∙ ap (λ x. x ∷ untext 0 bs) (unescape_byte b (escapes_byte b h))

    plain : escapes b ≡ false → untext 0 (escape_byte b ++ bs) ≡ b ∷ untext 0 bs
    plain h =
        let p = plain_byte b h in
        ap (λ l. untext 0 (l ++ bs)) (cond-false (escapes b) (92 ∷ hex (b / 16) ∷ hex (b % 16) ∷ []) (b ∷ []) h)
        ∙ (cond-false (nat_lt b 33) _ _ p.0 ∙ cond-false (b == 92) _ _ p.1)

pub past_byte : (b : ℕ) (bs : List ℕ) → past 0 (escape_byte b ++ bs) ≡ past 0 bs
unfolding past escape_byte
past_byte b bs = ⊎_elim escaped plain (cases_Bool (escapes b))
  where
    escaped : escapes b ≡ true → past 0 (escape_byte b ++ bs) ≡ past 0 bs
    escaped h = ap (λ l. past 0 (l ++ bs)) (cond-true (escapes b) (92 ∷ hex (b / 16) ∷ hex (b % 16) ∷ []) (b ∷ []) h)

    plain : escapes b ≡ false → past 0 (escape_byte b ++ bs) ≡ past 0 bs
    plain h =
        let p = plain_byte b h in
        ap (λ l. past 0 (l ++ bs)) (cond-false (escapes b) (92 ∷ hex (b / 16) ∷ hex (b % 16) ∷ []) (b ∷ []) h)
        ∙ (cond-false (nat_lt b 33) _ _ p.0 ∙ cond-false (b == 92) _ _ p.1)

-- a byte below 33, or the end, ends a text
pub untext_ends : (bs : List ℕ) → slice_index bs 0 < 33 → untext 0 bs ≡ []
unfolding untext
untext_ends [] h = refl
untext_ends (b ∷ bs) h = cond-true (nat_lt b 33) _ _ (lt-ltb b 33 h)

pub past_ends : (bs : List ℕ) → slice_index bs 0 < 33 → past 0 bs ≡ bs
unfolding past
past_ends [] h = refl
past_ends (b ∷ bs) h = cond-true (nat_lt b 33) _ _ (lt-ltb b 33 h)

-- an escaped text is read back, up to what follows it
pub untext_escape : (text bs : List ℕ) → slice_index bs 0 < 33 → untext 0 (escape text ++ bs) ≡ text
untext_escape [] bs h = untext_ends bs h
untext_escape (b ∷ text) bs h = ap (untext 0) (append_assoc (escape_byte b) (escape text) bs) ∙ (untext_byte b (escape text ++ bs) ∙ ap (λ l. b ∷ l) (untext_escape text bs h))

pub past_escape : (text bs : List ℕ) → slice_index bs 0 < 33 → past 0 (escape text ++ bs) ≡ bs
past_escape [] bs h = past_ends bs h
past_escape (b ∷ text) bs h = ap (past 0) (append_assoc (escape_byte b) (escape text) bs) ∙ (past_byte b (escape text ++ bs) ∙ past_escape text bs h)

pub length_byte : (b : ℕ) → (1 ≤ length (escape_byte b)) × (length (escape_byte b) ≤ 3)
unfolding escape_byte
length_byte b = ⊎_elim (λ h. let e : length (escape_byte b) ≡ 3 = ap length (cond-true (escapes b) _ _ h) in (omega arith, omega arith)) (λ h. let e : length (escape_byte b) ≡ 1 = ap length (cond-false (escapes b) _ _ h) in (omega arith, omega arith)) (cases_Bool (escapes b))

pub length_escape : (text : List ℕ) → length (escape text) ≤ 3 * length text
length_escape [] = omega arith
length_escape (b ∷ text) = omega (arith, length-append (escape_byte b) (escape text), (length_byte b).1, length_escape text)

-- what is left of a text after its first byte

untext_skip : (skip : ℕ) (bs : List ℕ) → untext skip bs ≡ untext 0 (drop skip bs)
unfolding untext
untext_skip zero [] = refl
untext_skip zero (b ∷ bs) = refl
untext_skip (suc skip) [] = refl
untext_skip (suc skip) (b ∷ bs) = untext_skip skip bs

past_skip : (skip : ℕ) (bs : List ℕ) → past skip bs ≡ past 0 (drop skip bs)
unfolding past
past_skip zero [] = refl
past_skip zero (b ∷ bs) = refl
past_skip (suc skip) [] = refl
past_skip (suc skip) (b ∷ bs) = past_skip skip bs

pub untext_escaped : (bs : List ℕ) → 32 < slice_index bs 0 → slice_index bs 0 ≡ 92 → untext 0 bs ≡ unescaped (slice_index bs 1) (slice_index bs 2) ∷ untext 0 (drop 3 bs)
unfolding untext
untext_escaped [] h e = absurd (omega arith)
untext_escaped (b ∷ bs) h e = cond-false (nat_lt b 33) _ _ (le-ltb b 33 h) ∙ (cond-true (b == 92) _ _ (eq-eqb b 92 e) ∙ ap (λ l. unescaped (slice_index bs 0) (slice_index bs 1) ∷ l) (untext_skip 2 bs))

pub untext_plain : (bs : List ℕ) → 32 < slice_index bs 0 → (slice_index bs 0 ≢ 92) → untext 0 bs ≡ slice_index bs 0 ∷ untext 0 (drop 1 bs)
unfolding untext
untext_plain [] h e = absurd (omega arith)
untext_plain (b ∷ bs) h e = cond-false (nat_lt b 33) _ _ (le-ltb b 33 h) ∙ cond-false (b == 92) _ _ (ne_eqb b 92 e)

pub past_escaped : (bs : List ℕ) → 32 < slice_index bs 0 → slice_index bs 0 ≡ 92 → past 0 bs ≡ past 0 (drop 3 bs)
unfolding past
past_escaped [] h e = absurd (omega arith)
past_escaped (b ∷ bs) h e = cond-false (nat_lt b 33) _ _ (le-ltb b 33 h) ∙ (cond-true (b == 92) _ _ (eq-eqb b 92 e) ∙ past_skip 2 bs)

pub past_plain : (bs : List ℕ) → 32 < slice_index bs 0 → (slice_index bs 0 ≢ 92) → past 0 bs ≡ past 0 (drop 1 bs)
unfolding past
past_plain [] h e = absurd (omega arith)
past_plain (b ∷ bs) h e = cond-false (nat_lt b 33) _ _ (le-ltb b 33 h) ∙ cond-false (b == 92) _ _ (ne_eqb b 92 e)

-- a text that goes on has a byte at least, and so have the bytes
pub goes_on : (bs : List ℕ) → 32 < slice_index bs 0 → (1 ≤ length bs) × (1 ≤ length (untext 0 bs))
unfolding untext
goes_on [] h = absurd (omega arith)
goes_on (b ∷ bs) h = (omega arith, ⊎_elim (λ e. omega (arith, ap length (untext_escaped (b ∷ bs) h (eqb-true b 92 e)))) (λ e. omega (arith, ap length (untext_plain (b ∷ bs) h (eqb-false b 92 e)))) (cases_Bool (b == 92)))
