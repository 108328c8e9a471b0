-- What the tables stand for while a document is composed, and what is always so of them.
use Rattle.std.specs.Prelude.{◌≡◌, ℕ, suc, ◌+◌, ◌-◌, ◌<◌, ◌≤◌, Bool, true, false, List, [], ◌∷◌, length, take, drop, Some}
use Rattle.std.specs.List.{AllByRecursion}
use Rattle.model.specs.declared.NodeKind.{NodeKind}
use Rattle.model.specs.declared.NodeKind.TheVariants.{Sequence, Mapping}
use Rattle.model.specs.Graph.{nth}
use Rattle.document.specs.declared.node.Node.{Node}
use Rattle.document.specs.Books.{graph_of}
use Rattle.document.specs.Questions.{link_total, text_total}
use Rattle.serial.specs.Compose.{frame, Composed, named}
use Rattle.serial.specs.Compose.{Frame as OpenOne}
use Rattle.composer.specs.declared.anchor.Anchor.{Anchor}
use Rattle.composer.specs.declared.frames.Frame.{Frame}
use Rattle.composer.specs.Names.{found, name_of}
use Rattle.composer.specs.State.{St}
use Rattle.composer.specs.Steps.{kind_number}

-- the child of the document: its root, once there is a node
abbrev pub root_of : List Node → List ℕ
root_of [] = []
root_of (v ∷ vs) = 1 ∷ []

-- the last n entries, and those before them
abbrev pub last_of : ℕ → List ℕ → List ℕ
last_of n xs = drop (length xs - n) xs

abbrev pub before_last : ℕ → List ℕ → List ℕ
before_last n xs = take (length xs - n) xs

-- the open collections, each with its children, and the document around them
abbrev pub open_ones_of : List Frame → List ℕ → List ℕ → List OpenOne
open_ones_of [] root waiting = frame 0 root ∷ []
open_ones_of (f ∷ fs) root waiting = frame f.node (last_of f.children waiting) ∷ open_ones_of fs root (before_last f.children waiting)

-- the anchors with their nodes, newest first, before those of a list
abbrev pub names_onto : List (List ℕ × ℕ) → List Anchor → List (List ℕ × ℕ)
names_onto ns [] = ns
names_onto ns (a ∷ others) = names_onto ((name_of a, a.node) ∷ ns) others

abbrev pub names_of : List Anchor → List (List ℕ × ℕ)
names_of anchors = names_onto [] anchors

-- what is composed so far: an open collection's node has no links yet
abbrev pub composed_of : St → Composed
composed_of s = record {
  nodes = graph_of s.nodes s.links s.text;
  names = names_of s.anchors;
  open_ones = open_ones_of s.frames (root_of s.nodes) s.waiting;
}

-- a node's tag, value and links lie in the tables
pub record Placed (links text : List ℕ) (v : Node) : Type 0 where
  pub tag : v.tag_start + v.tag_length ≤ length text
  pub value : v.value_start + v.value_length ≤ length text
  pub linked : v.first_link + v.link_count ≤ length links

abbrev pub collection_kind : Bool → NodeKind
collection_kind false = Sequence
collection_kind true = Mapping

-- an open collection's node is there, among the first n, of its kind and without links
pub record OpenNode (nodes : List Node) (n : ℕ) (f : Frame) : Type 0 where
  pub place : ℕ
  pub node : Node
  pub number : f.node ≡ suc place
  pub here : nth nodes place ≡ Some node
  pub kind : node.kind ≡ kind_number (collection_kind f.mapping)
  pub below : place < n
  pub bare : node.link_count ≡ 0

-- each open collection has its node, an inner one a later one, and its children wait, the innermost one's last; no others wait
abbrev pub AllOpen : List Node → ℕ → List Frame → List ℕ → Type 0
AllOpen nodes n [] waiting = waiting ≡ []
AllOpen nodes n (f ∷ fs) waiting = (o : OpenNode nodes n f) × (f.children ≤ length waiting) × AllOpen nodes o.place fs (before_last f.children waiting)

-- the tables hold a document that is being composed: every part of a node lies in its table, texts and links without gaps; the open collections are collections;
-- an anchor names one node, which is there
pub record Tidy (s : St) : Type 0 where
  pub placed : AllByRecursion (Placed s.links s.text) s.nodes
  pub opens : AllOpen s.nodes (length s.nodes) s.frames s.waiting
  pub names : (a : List ℕ) → found s.anchors a ≡ named a (names_of s.anchors)
  pub known : (a : List ℕ) (v : ℕ) → found s.anchors a ≡ Some v → (1 ≤ v) × (v ≤ length s.nodes)
  pub texts : text_total s.nodes ≡ length s.text
  pub placed_links : link_total s.nodes ≡ length s.links
