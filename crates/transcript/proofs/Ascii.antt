-- What a line has for a byte is ASCII, so that each of its bytes is a character.
use Rattle.std.proofs.Common.{◌≡◌, ℕ, zero, suc, ◌/◌, ◌%◌, ◌<◌, false, List, [], ◌∷◌, get_or, ⊎_elim, sym, ap, subst, ◌∙◌, arith}
use Rattle.std.proofs.lemmas.Bool.{cases_Bool}
use Rattle.std.proofs.lemmas.Bool.Decides.{nat_tests}
use Rattle.std.proofs.lemmas.Str.{encode_ascii}
use Rattle.std.specs.Char.{encode_utf8}
use Rattle.lines.specs.Line.{hex, escapes, escape_byte}
use Rattle.lines.proofs.Escaping.{escaped_byte, same_byte}

hex_ascii : (d : ℕ) → d < 16 → hex d < 128
hex_ascii d l = grind (arith, nat_tests)

-- a byte that is not escaped
plain_ascii : (b : ℕ) → b < 256 → escapes b ≡ false → b < 128
plain_ascii b l h = grind (arith, nat_tests)

three : (x y z k : ℕ) → x < 128 → y < 128 → z < 128 → get_or (x ∷ y ∷ z ∷ []) k 0 < 128
three x y z zero a b c = a
three x y z (suc zero) a b c = b
three x y z (suc (suc zero)) a b c = c
three x y z (suc (suc (suc k))) a b c = omega arith

one : (x k : ℕ) → x < 128 → get_or (x ∷ []) k 0 < 128
one x zero a = a
one x (suc k) a = omega arith

-- each byte of it
shown_ascii : (b : ℕ) (bs : List ℕ) (k : ℕ) → b < 256 → escape_byte b ≡ bs → get_or bs k 0 < 128
shown_ascii b bs k l e =
    subst (λ xs. get_or xs k 0 < 128) e
    (⊎_elim
    (λ t. subst (λ xs. get_or xs k 0 < 128) (sym (escaped_byte b t)) (three 92 (hex (b / 16)) (hex (b % 16)) k (omega arith) (hex_ascii (b / 16) (omega arith)) (hex_ascii (b % 16) (omega arith))))
    (λ f. subst (λ xs. get_or xs k 0 < 128) (sym (same_byte b f)) (one b k (plain_ascii b l f)))
    (cases_Bool (escapes b)))

-- written as the character of its number, it is itself
pub shown_char : (b : ℕ) (bs : List ℕ) (k c : ℕ) → b < 256 → escape_byte b ≡ bs → c ≡ get_or bs k 0 → encode_utf8 c ≡ get_or bs k 0 ∷ []
shown_char b bs k c l e is = ap encode_utf8 is ∙ encode_ascii (get_or bs k 0) (shown_ascii b bs k l e)
