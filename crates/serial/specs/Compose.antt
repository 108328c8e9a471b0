-- Composing: how the events of one document's nodes become its nodes. Every node event is a node, numbered in order; every link is the node of its child, in order;
-- an alias is the node that its anchor names, and an anchor names a node from the event that gives it on.
use Rattle.std.specs.Prelude.{◌≡◌, ℕ, suc, ◌%◌, true, cond, List, [], ◌∷◌, ◌++◌, length, Some, None, codes, Option, slice_set}
use Rattle.model.specs.declared.EventKind.TheVariants.{Alias, Scalar as ScalarEvent}
use Rattle.model.specs.declared.NodeKind.{NodeKind}
use Rattle.model.specs.declared.NodeKind.TheVariants.{Scalar, Sequence, Mapping}
use Rattle.model.specs.Events.{Ev}
use Rattle.model.specs.Graph.{Look, Vertex, numbered}
use Rattle.serial.specs.Walk.{is_collection}
use Rattle.serial.specs.Serialize.{default_tag, same_bytes, start_kind, end_kind}

-- the tag of a node: an absent one, or `!` alone, is its kind's default
abbrev pub resolved : NodeKind → List ℕ → List ℕ
resolved k [] = default_tag k
resolved k (b ∷ bs) = cond (same_bytes (b ∷ bs) (codes "!")) (default_tag k) (b ∷ bs)

abbrev pub look_of : NodeKind → Ev → Look
look_of k e = record { kind = k; style = e.style; tag = resolved k e.tag; value = e.value }

-- an open collection: its number (0 stands for the document) and its children so far
pub data Frame : Type 0 where
  frame : ℕ → List ℕ → Frame

-- the nodes so far (a collection's links are put in at its end), the anchors with their nodes (newest first), the open collections (innermost first)
pub record Composed : Type 0 where
  pub nodes : List Vertex
  pub names : List (List ℕ × ℕ)
  pub open_ones : List Frame

-- the node that an anchor names
abbrev pub named : List ℕ → List (List ℕ × ℕ) → Option ℕ
named a [] = None
named a (n ∷ ns) = cond (same_bytes a n.0) (Some n.1) (named a ns)

-- an anchor that is given is noted; an absent one is not
abbrev pub noted : List ℕ → ℕ → List (List ℕ × ℕ) → List (List ℕ × ℕ)
noted [] v ns = ns
noted (b ∷ bs) v ns = ((b ∷ bs), v) ∷ ns

-- no other node of the document has the anchor
abbrev pub fresh : List ℕ → List (List ℕ × ℕ) → Type 0
fresh [] ns = Unit {0}
fresh (b ∷ bs) ns = named (b ∷ bs) ns ≡ None

abbrev pub bare_vertex : Look → Vertex
bare_vertex l = record { look = l; links = [] }

abbrev with_links : List Vertex → ℕ → Option Vertex → List ℕ → List Vertex
with_links g v None links = g
with_links g v (Some x) links = slice_set g v (record { look = x.look; links = links })

-- node v, from 1, gets its links
abbrev pub closed : List Vertex → ℕ → List ℕ → List Vertex
closed g Prim.Native.Nat.zero links = g
closed g (suc v) links = with_links g v (numbered g (suc v)) links

-- a collection takes any number of children, the document one: its root
abbrev pub Takes : ℕ → List ℕ → Type 0
Takes Prim.Native.Nat.zero children = children ≡ []
Takes (suc v) children = Unit {0}

-- a mapping ends after an even number of children
abbrev pub Complete : NodeKind → List ℕ → Type 0
Complete Scalar children = ⊥
Complete Sequence children = Unit {0}
Complete Mapping children = length children % 2 ≡ 0

abbrev pub after_alias : Composed → ℕ → List ℕ → List Frame → ℕ → Composed
after_alias s u children frames v = record { nodes = s.nodes; names = s.names; open_ones = frame u (children ++ v ∷ []) ∷ frames }

abbrev pub after_scalar : Composed → ℕ → List ℕ → List Frame → Ev → Composed
after_scalar s u children frames e = record {
  nodes = s.nodes ++ bare_vertex (look_of Scalar e) ∷ [];
  names = noted e.anchor (suc (length s.nodes)) s.names;
  open_ones = frame u (children ++ suc (length s.nodes) ∷ []) ∷ frames;
}

abbrev pub after_start : Composed → ℕ → List ℕ → List Frame → NodeKind → Ev → Composed
after_start s u children frames k e = record {
  nodes = s.nodes ++ bare_vertex (look_of k e) ∷ [];
  names = noted e.anchor (suc (length s.nodes)) s.names;
  open_ones = frame (suc (length s.nodes)) [] ∷ (frame u (children ++ suc (length s.nodes) ∷ []) ∷ frames);
}

abbrev pub after_end : Composed → ℕ → List ℕ → List Frame → Composed
after_end s v children frames = record { nodes = closed s.nodes v children; names = s.names; open_ones = frames }

-- What one event does, where it is in turn, its alias is known and its anchor new.
pub data TakesIn : Composed → Ev → Composed → Type 0 where
  alias : {s t : Composed} {e : Ev} {u v : ℕ} {children : List ℕ} {frames : List Frame}
      → e.kind ≡ Alias → s.open_ones ≡ frame u children ∷ frames → Takes u children → named e.anchor s.names ≡ Some v
      → t ≡ after_alias s u children frames v → TakesIn s e t
  scalar : {s t : Composed} {e : Ev} {u : ℕ} {children : List ℕ} {frames : List Frame}
      → e.kind ≡ ScalarEvent → s.open_ones ≡ frame u children ∷ frames → Takes u children → fresh e.anchor s.names
      → t ≡ after_scalar s u children frames e → TakesIn s e t
  start : {s t : Composed} {e : Ev} {u : ℕ} {children : List ℕ} {frames : List Frame} (k : NodeKind)
      → is_collection k ≡ true → e.kind ≡ start_kind k → s.open_ones ≡ frame u children ∷ frames → Takes u children → fresh e.anchor s.names
      → t ≡ after_start s u children frames k e → TakesIn s e t
  end : {s t : Composed} {e : Ev} {v : ℕ} {children : List ℕ} {frames : List Frame} {x : Vertex}
      → s.open_ones ≡ frame (suc v) children ∷ frames → numbered s.nodes (suc v) ≡ Some x
      → is_collection x.look.kind ≡ true → e.kind ≡ end_kind x.look.kind → Complete x.look.kind children
      → t ≡ after_end s (suc v) children frames → TakesIn s e t

-- events one after the other
pub data TakesAll : Composed → List Ev → Composed → Type 0 where
  none : {s : Composed} → TakesAll s [] s
  more : {s t u : Composed} {e : Ev} {es : List Ev} → TakesIn s e t → TakesAll t es u → TakesAll s (e ∷ es) u

abbrev pub beginning : Composed
beginning = record { nodes = []; names = []; open_ones = frame 0 [] ∷ [] }

-- the events between a document's start and end compose to these nodes
pub record Composes (es : List Ev) (g : List Vertex) : Type 0 where
  pub end_state : Composed
  pub taken_in : TakesAll beginning es end_state
  pub complete : end_state.open_ones ≡ frame 0 (1 ∷ []) ∷ []
  pub result : end_state.nodes ≡ g
