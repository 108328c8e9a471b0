-- The line of an event, and what stands at the front of some bytes that should be lines.
--   KIND STYLE FLAGS [&ANCHOR] [<TAG] [:VALUE] newline
-- with one space before each part but the first; VALUE stands for a scalar only, and always there.
use Rattle.std.specs.Prelude.{◌≡◌, ℕ, zero, suc, ◌+◌, ◌-◌, ◌*◌, ◌/◌, ◌%◌, ◌≤◌, Bool, true, false, cond, ◌&&◌, ◌||◌, List, [], ◌∷◌, ◌++◌, length, drop, codes, ◌==◌, ◌≢◌, nat_le, nat_lt, slice_index}
use Rattle.std.specs.List.{flat_map}
use Rattle.model.specs.declared.EventKind.{EventKind}
use Rattle.model.specs.declared.EventKind.TheVariants.{StreamStart, StreamEnd, DocumentStart, DocumentEnd, Alias, Scalar, SequenceStart, SequenceEnd, MappingStart, MappingEnd}
use Rattle.model.specs.declared.Cause.TheVariants.{NotALine}
use Rattle.model.specs.Events.{Ev, allowed}
use Rattle.model.specs.Reading.{Front, nothing, event, fault}

-- the word that a line begins with
abbrev pub word : EventKind → List ℕ
word StreamStart = codes "+STR"
word StreamEnd = codes "-STR"
word DocumentStart = codes "+DOC"
word DocumentEnd = codes "-DOC"
word Alias = codes "=ALI"
word Scalar = codes "=VAL"
word SequenceStart = codes "+SEQ"
word SequenceEnd = codes "-SEQ"
word MappingStart = codes "+MAP"
word MappingEnd = codes "-MAP"

-- a hexadecimal digit: 0 to 9, A to F
abbrev pub hex : ℕ → ℕ
hex d = cond (nat_lt d 10) (48 + d) (55 + d)

-- Whether a byte is escaped: below 33, above 126, or the backslash. A number past 255 is no byte; it would stand as it is, and stands in no real line.
abbrev pub escapes : ℕ → Bool
escapes b = nat_lt b 33 || ((nat_lt 126 b && nat_lt b 256) || b == 92)

-- a byte of a text as a line has it
unfoldable pub escape_byte : ℕ → List ℕ
escape_byte b = cond (escapes b) (92 ∷ hex (b / 16) ∷ hex (b % 16) ∷ []) (b ∷ [])

abbrev pub escape : List ℕ → List ℕ
escape text = flat_map escape_byte text

-- the mark is 38 (&) for an anchor, 60 (<) for a tag, 58 (:) for a value
abbrev pub marked : ℕ → List ℕ → List ℕ
marked mark text = 32 ∷ mark ∷ escape text

-- a part that is absent where its text has no bytes
abbrev pub optional : ℕ → List ℕ → List ℕ
optional mark [] = []
optional mark (b ∷ bs) = marked mark (b ∷ bs)

-- a scalar's value, which stands even if it has no bytes
abbrev pub value_part : EventKind → List ℕ → List ℕ
value_part StreamStart text = []
value_part StreamEnd text = []
value_part DocumentStart text = []
value_part DocumentEnd text = []
value_part Alias text = []
value_part Scalar text = marked 58 text
value_part SequenceStart text = []
value_part SequenceEnd text = []
value_part MappingStart text = []
value_part MappingEnd text = []

-- style and flags, a digit each
abbrev pub digits : ℕ → ℕ → List ℕ
digits style flags = 32 ∷ (48 + style) ∷ 32 ∷ (48 + flags) ∷ []

unfoldable pub line_of : Ev → List ℕ
line_of e = word e.kind ++ (digits e.style e.flags ++ (optional 38 e.anchor ++ (optional 60 e.tag ++ (value_part e.kind e.value ++ 10 ∷ []))))

-- the value of a hexadecimal digit
abbrev pub unhex : ℕ → ℕ
unhex c = cond (nat_le 65 c) (c - 55) (c - 48)

-- the byte that the two digits after a backslash seem to tell
abbrev pub unescaped : ℕ → ℕ → ℕ
unescaped high low = (16 * unhex high + unhex low) % 256

-- The text that the bytes seem to tell, up to the first byte below 33 or the end, when `skip` bytes belong to an escape already told
unfoldable pub untext : ℕ → List ℕ → List ℕ
untext skip [] = []
untext (suc skip) (b ∷ bs) = untext skip bs
untext zero (b ∷ bs) = cond (nat_lt b 33) [] (cond (b == 92) (unescaped (slice_index bs 0) (slice_index bs 1) ∷ untext 2 bs) (b ∷ untext 0 bs))

-- the bytes that follow this text
unfoldable pub past : ℕ → List ℕ → List ℕ
past skip [] = []
past (suc skip) (b ∷ bs) = past skip bs
past zero (b ∷ bs) = cond (nat_lt b 33) (b ∷ bs) (cond (b == 92) (past 2 bs) (past 0 bs))

-- whether a part with this mark stands at the front, its text, and the bytes that follow it
abbrev pub begins : ℕ → List ℕ → Bool
begins mark bs = slice_index bs 0 == 32 && slice_index bs 1 == mark

abbrev pub part_text : ℕ → List ℕ → List ℕ
part_text mark bs = cond (begins mark bs) (untext 0 (drop 2 bs)) []

abbrev pub part_rest : ℕ → List ℕ → List ℕ
part_rest mark bs = cond (begins mark bs) (past 0 (drop 2 bs)) bs

-- the kind that the first and the fourth byte of a line seem to tell
abbrev pub seeming_kind : ℕ → ℕ → EventKind
seeming_kind sign letter =
    cond (letter == 82) (cond (sign == 43) StreamStart StreamEnd)
    (cond (letter == 67) (cond (sign == 43) DocumentStart DocumentEnd)
    (cond (letter == 73) Alias
    (cond (letter == 76) Scalar
    (cond (letter == 81) (cond (sign == 43) SequenceStart SequenceEnd)
    (cond (sign == 43) MappingStart MappingEnd)))))

-- the event that the bytes seem to tell
unfoldable pub guess : List ℕ → Ev
guess bs = record {
  kind = seeming_kind (slice_index bs 0) (slice_index bs 3);
  style = slice_index bs 5 - 48;
  flags = slice_index bs 7 - 48;
  anchor = part_text 38 (drop 8 bs);
  tag = part_text 60 (part_rest 38 (drop 8 bs));
  value = part_text 58 (part_rest 60 (part_rest 38 (drop 8 bs)));
}

-- whether some bytes begin with others
abbrev pub starts_with : List ℕ → List ℕ → Bool
starts_with [] ys = true
starts_with (x ∷ xs) [] = false
starts_with (x ∷ xs) (y ∷ ys) = x == y && starts_with xs ys

-- the bytes begin with the line of that event, which is allowed
abbrev pub is_line_of : Ev → List ℕ → Bool
is_line_of e bs = allowed e && starts_with (line_of e) bs

abbrev pub front_for : Ev → List ℕ → Front
front_for e bs = cond (is_line_of e bs) (event e (length (line_of e))) (fault NotALine)

-- What stands at the front: the event that the bytes seem to tell, if writing it gives the same bytes again
unfoldable pub line_front : List ℕ → Front
line_front [] = nothing
line_front (b ∷ bs) = front_for (guess (b ∷ bs)) (b ∷ bs)

-- A fault is told exactly where bytes are left and no allowed event's line stands at their front.
pub record Refuses : Type 0 where
  pub some_bytes : (bs : List ℕ) → line_front bs ≡ fault NotALine → bs ≢ []
  pub no_line : (bs : List ℕ) → line_front bs ≡ fault NotALine → (e : Ev) (more : List ℕ) → allowed e ≡ true → bs ≢ line_of e ++ more
  pub only_then : (bs : List ℕ) → (bs ≢ []) → ((e : Ev) (more : List ℕ) → allowed e ≡ true → bs ≢ line_of e ++ more) → line_front bs ≡ fault NotALine

-- the longest line that is written: 9 bytes, and 2 for each of the three texts and 3 for each of their bytes
abbrev pub longest : ℕ
longest = 13263

abbrev pub Short : Type 0
Short = (e : Ev) → allowed e ≡ true → length (line_of e) ≤ longest
