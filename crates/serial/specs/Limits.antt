-- What looks and anchors keep within, so that the events of a walk are allowed.
use Rattle.std.specs.Prelude.{◌≡◌, ℕ, ◌≤◌, true, ◌≢◌, List, [], length, Some}
use mathlib.Core.List.{Memᴰ}
use Rattle.model.specs.Events.{table, zero_free, all_allowed}
use Rattle.model.specs.Graph.{Look, Vertex, Book, numbered}
use Rattle.serial.specs.Walk.{Token, again}
use Rattle.serial.specs.Numbering.{anchor_of}
use Rattle.serial.specs.Serialize.{start_kind, walk_events, book_events}

-- a look keeps within what the event of its kind may carry
pub record LookWithin (l : Look) : Type 0 where
  pub style : l.style ≤ (table (start_kind l.kind)).most_style
  pub tag_some : 1 ≤ length l.tag
  pub tag_length : length l.tag ≤ 256
  pub tag_zero_free : zero_free l.tag ≡ true
  pub value_length : length l.value ≤ (table (start_kind l.kind)).most_value

abbrev pub LooksWithin : List Vertex → Type 0
LooksWithin g = (v : ℕ) (x : Vertex) → numbered g v ≡ Some x → LookWithin x.look

pub record AnchorWithin (a : List ℕ) : Type 0 where
  pub most : length a ≤ 64
  pub no_zero : zero_free a ≡ true

-- the events of a walk are allowed
abbrev pub WalkAllowed : Type 0
WalkAllowed = (g : List Vertex) (anchors : ℕ → List ℕ) (ts : List Token)
    → LooksWithin g → ((v : ℕ) → AnchorWithin (anchors v)) → ((v : ℕ) → Memᴰ (again v) ts → anchors v ≢ [])
    → all_allowed (walk_events anchors g ts) ≡ true

-- the events of a document are allowed
abbrev pub BookAllowed : Type 0
BookAllowed = (b : Book) (ts : List Token)
    → LooksWithin b.nodes → ((v : ℕ) → Memᴰ (again v) ts → anchor_of b.nodes v ≢ [])
    → all_allowed (book_events b ts) ≡ true
