-- Events, and which of them are allowed. docs/EVENTS.md shows the same table.
use Rattle.std.specs.Prelude.{◌≡◌, ℕ, Bool, true, not, cond, ◌&&◌, List, [], ◌∷◌, length, Some, None, Ok, Err, Option, Result, ◌==◌, nat_le}
use Rattle.model.specs.declared.EventKind.{EventKind}
use Rattle.model.specs.declared.EventKind.TheVariants.{StreamStart, StreamEnd, DocumentStart, DocumentEnd, Alias, Scalar, SequenceStart, SequenceEnd, MappingStart, MappingEnd}
use Rattle.model.specs.declared.NoSuchKind.{NoSuchKind}
use Rattle.model.specs.declared.Cause.{Cause}
use Rattle.model.specs.declared.Cause.TheVariants.{HeadCut, HeadNotAllowed, TextsCut, ZeroByte, NotALine}

-- an event without its marks; an anchor or a tag of no bytes is absent
pub record Ev : Type 0 where
  pub kind : EventKind
  pub style : ℕ
  pub flags : ℕ
  pub anchor : List ℕ
  pub tag : List ℕ
  pub value : List ℕ

-- what a kind may carry: the greatest style and flags, the least and the greatest length of the anchor, the greatest of the tag and of the value
pub record Row : Type 0 where
  pub most_style : ℕ
  pub most_flags : ℕ
  pub least_anchor : ℕ
  pub most_anchor : ℕ
  pub most_tag : ℕ
  pub most_value : ℕ

abbrev row : ℕ → ℕ → ℕ → ℕ → ℕ → ℕ → Row
row s f l a t v = record { most_style = s; most_flags = f; least_anchor = l; most_anchor = a; most_tag = t; most_value = v }

abbrev pub table : EventKind → Row
--                     style flags  anchor   tag value
table StreamStart = row 3 0 0 0 0 0
table StreamEnd = row 0 0 0 0 0 0
table DocumentStart = row 0 1 0 0 0 0
table DocumentEnd = row 0 1 0 0 0 0
table Alias = row 0 0 1 64 0 0
table Scalar = row 5 3 0 64 256 4096
table SequenceStart = row 2 1 0 64 256 0
table SequenceEnd = row 0 0 0 0 0 0
table MappingStart = row 2 1 0 64 256 0
table MappingEnd = row 0 0 0 0 0 0

-- style, flags and the lengths of anchor, tag and value are within a row
abbrev pub within : Row → ℕ → ℕ → ℕ → ℕ → ℕ → Bool
within r s f a t v = nat_le s r.most_style && (nat_le f r.most_flags && (nat_le r.least_anchor a && (nat_le a r.most_anchor && (nat_le t r.most_tag && nat_le v r.most_value))))

-- no zero byte
abbrev pub zero_free : List ℕ → Bool
zero_free [] = true
zero_free (b ∷ bs) = not (b == 0) && zero_free bs

abbrev pub allowed : Ev → Bool
allowed e = within (table e.kind) e.style e.flags (length e.anchor) (length e.tag) (length e.value) && (zero_free e.anchor && zero_free e.tag)

-- each event of a list is allowed
abbrev pub all_allowed : List Ev → Bool
all_allowed [] = true
all_allowed (e ∷ es) = allowed e && all_allowed es

-- the numbers of the kinds, as in `yaml_event_type_t`
abbrev pub kind_number : EventKind → ℕ
kind_number StreamStart = 1
kind_number StreamEnd = 2
kind_number DocumentStart = 3
kind_number DocumentEnd = 4
kind_number Alias = 5
kind_number Scalar = 6
kind_number SequenceStart = 7
kind_number SequenceEnd = 8
kind_number MappingStart = 9
kind_number MappingEnd = 10

-- the kind of a number
abbrev pub kind_at : ℕ → Option EventKind
kind_at n =
    cond (n == 1) (Some StreamStart) (cond (n == 2) (Some StreamEnd)
    (cond (n == 3) (Some DocumentStart) (cond (n == 4) (Some DocumentEnd)
    (cond (n == 5) (Some Alias) (cond (n == 6) (Some Scalar)
    (cond (n == 7) (Some SequenceStart) (cond (n == 8) (Some SequenceEnd)
    (cond (n == 9) (Some MappingStart) (cond (n == 10) (Some MappingEnd) None)))))))))

-- the answer is the kind of that number, or tells the number where no kind has it
abbrev pub KindOf : ℕ → Result EventKind NoSuchKind → Type 0
KindOf n (Ok k) = kind_at n ≡ Some k
KindOf n (Err e) = (e.0 ≡ n) × (kind_at n ≡ None)

-- the number of a source's fault
abbrev pub cause_number : Cause → ℕ
cause_number HeadCut = 11
cause_number HeadNotAllowed = 12
cause_number TextsCut = 13
cause_number ZeroByte = 14
cause_number NotALine = 15
