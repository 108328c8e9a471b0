-- Serializing a sound document and composing its events gives the document back, alike by paths.
use Rattle.std.specs.Prelude.{◌≡◌, ℕ, ◌%◌, ◌≤◌, true, false, ◌≢◌, List, [], length, Some, codes}
use mathlib.Core.List.{Memᴰ}
use Rattle.model.specs.declared.NodeKind.TheVariants.{Mapping}
use Rattle.model.specs.Events.{Ev, all_allowed}
use Rattle.model.specs.Graph.{Vertex, Book, numbered, Alike}
use Rattle.serial.specs.Walk.{Token, again, among, is_collection, Walk}
use Rattle.serial.specs.Numbering.{anchor_of}
use Rattle.serial.specs.Serialize.{walk_events}
use Rattle.serial.specs.Compose.{Composes}

-- a sound node, in a document of n nodes
pub record SoundVertex (n : ℕ) (x : Vertex) : Type 0 where
  pub links_lead : (w : ℕ) → among w x.links ≡ true → (1 ≤ w) × (w ≤ n)
  pub scalar_ends : is_collection x.look.kind ≡ false → x.links ≡ []
  pub collection_bare : is_collection x.look.kind ≡ true → x.look.value ≡ []
  pub pairs : x.look.kind ≡ Mapping → length x.links % 2 ≡ 0
  pub tagged : x.look.tag ≢ []
  pub tag_told : x.look.tag ≢ codes "!"

-- a sound document: it has a root, and every node is sound
pub record Sound (g : List Vertex) : Type 0 where
  pub some : 1 ≤ length g
  pub each : (v : ℕ) (x : Vertex) → numbered g v ≡ Some x → SoundVertex (length g) x

-- the anchors tell the nodes apart, and every node that is met again has one
pub record Tells (anchors : ℕ → List ℕ) (ts : List Token) : Type 0 where
  pub apart : (v w : ℕ) → anchors v ≡ anchors w → anchors v ≢ [] → v ≡ w
  pub given : (v : ℕ) → Memᴰ (again v) ts → anchors v ≢ []

-- a document with other nodes
abbrev pub with_nodes : Book → List Vertex → Book
with_nodes b g = record { nodes = g; start_implicit = b.start_implicit; end_implicit = b.end_implicit }

-- what comes back from a walk of a document
pub record Back (anchors : ℕ → List ℕ) (b : Book) (ts : List Token) : Type 0 where
  pub back : List Vertex
  pub composes : Composes (walk_events anchors b.nodes ts) back
  pub alike : Alike b (with_nodes b back)

abbrev pub RoundTrip : Type 0
RoundTrip = (b : Book) (deep : ℕ) (ts : List Token) (seen : List ℕ) (anchors : ℕ → List ℕ)
    → Sound b.nodes → Walk b.nodes deep ts seen → Tells anchors ts → Back anchors b ts

-- the same with the anchors that serializing gives
abbrev pub RoundTripAnchored : Type 0
RoundTripAnchored = (b : Book) (deep : ℕ) (ts : List Token) (seen : List ℕ)
    → Sound b.nodes → Walk b.nodes deep ts seen
    → ((v : ℕ) → Memᴰ (again v) ts → anchor_of b.nodes v ≢ []) → Back (anchor_of b.nodes) b ts

-- and whatever its events compose to is alike
abbrev pub ComposedAlike : Type 0
ComposedAlike = (b : Book) (deep : ℕ) (ts : List Token) (seen : List ℕ) (anchors : ℕ → List ℕ) (h : List Vertex)
    → Sound b.nodes → Walk b.nodes deep ts seen → Tells anchors ts
    → Composes (walk_events anchors b.nodes ts) h → Alike b (with_nodes b h)

-- what allowed events compose to is sound
abbrev pub ComposedSound : Type 0
ComposedSound = (es : List Ev) (g : List Vertex) → all_allowed es ≡ true → Composes es g → Sound g
