-- What one event does to a document that is being composed: the questions in their order, and what changes where each is answered yes.
use Rattle.std.specs.Prelude.{ℕ, ◌+◌, ◌-◌, ◌%◌, Bool, true, false, cond, not, ◌&&◌, List, [], ◌∷◌, ◌++◌, length, take, drop, Some, None, Ok, Err, Option, Result, ◌==◌, nat_le, nat_lt, slice_set}
use Rattle.model.specs.declared.EventKind.{EventKind}
use Rattle.model.specs.declared.EventKind.TheVariants.{StreamStart, StreamEnd, DocumentStart, DocumentEnd, Alias, Scalar as ScalarEvent, SequenceStart, SequenceEnd, MappingStart, MappingEnd}
use Rattle.model.specs.declared.NodeKind.{NodeKind}
use Rattle.model.specs.declared.NodeKind.TheVariants.{Scalar, Sequence, Mapping}
use Rattle.model.specs.declared.Mark.{Mark}
use Rattle.model.specs.Graph.{numbered}
use Rattle.model.specs.Reading.{Marked}
use Rattle.document.specs.declared.node.Node.{Node}
use Rattle.document.specs.Empty.{zero_mark}
use Rattle.serial.specs.Compose.{resolved}
use Rattle.composer.specs.declared.anchor.Anchor.{Anchor}
use Rattle.composer.specs.declared.frames.Frame.{Frame}
use Rattle.composer.specs.declared.refusal.Refusal.{Refusal}
use Rattle.composer.specs.declared.refusal.Refusal.TheVariants.{NotInTurn, UnknownAlias, NodesFull, TextFull, AnchorAgain, AnchorsFull, ChildrenFull, TooDeep}
use Rattle.composer.specs.Names.{found, entry_of}
use Rattle.composer.specs.State.{St, Spaces}

-- one step after another; the first refusal stands
abbrev pub next : Result St Refusal → (St → Result St Refusal) → Result St Refusal
next (Ok s) f = f s
next (Err e) f = Err e

-- 23: a node or an alias is the root or a child of an open collection
abbrev pub takes_child : List Frame → List Node → Bool
takes_child [] [] = true
takes_child [] (v ∷ vs) = false
takes_child (f ∷ fs) vs = true

-- an end fits the innermost open collection, a mapping's after an even number of children
abbrev pub ends_sequence : List Frame → Bool
ends_sequence [] = false
ends_sequence (f ∷ fs) = not f.mapping

abbrev pub ends_mapping : List Frame → Bool
ends_mapping [] = false
ends_mapping (f ∷ fs) = f.mapping && f.children % 2 == 0

-- the document ends after a complete root
abbrev pub ends_document : List Frame → List Node → Bool
ends_document [] [] = false
ends_document [] (v ∷ vs) = true
ends_document (f ∷ fs) vs = false

abbrev pub in_turn : EventKind → St → Bool
in_turn StreamStart s = false
in_turn StreamEnd s = false
in_turn DocumentStart s = false
in_turn DocumentEnd s = ends_document s.frames s.nodes
in_turn Alias s = takes_child s.frames s.nodes
in_turn ScalarEvent s = takes_child s.frames s.nodes
in_turn SequenceStart s = takes_child s.frames s.nodes
in_turn SequenceEnd s = ends_sequence s.frames
in_turn MappingStart s = takes_child s.frames s.nodes
in_turn MappingEnd s = ends_mapping s.frames

-- 29: node v becomes a child of the innermost open collection; the root is no child
abbrev pub one_more : Frame → Frame
one_more f = record { node = f.node; children = f.children + 1; mapping = f.mapping }

abbrev pub with_child : Frame → List Frame → ℕ → St → St
with_child f fs v s = record {
  nodes = s.nodes;
  links = s.links;
  text = s.text;
  anchors = s.anchors;
  waiting = s.waiting ++ v ∷ [];
  frames = one_more f ∷ fs;
}

abbrev pub adding_to : List Frame → Spaces → Mark → ℕ → St → Result St Refusal
adding_to [] sp at v s = Ok s
adding_to (f ∷ fs) sp at v s =
    cond (nat_lt (length s.waiting) sp.waiting)
    (cond (nat_lt (length s.links + length s.waiting) sp.links) (Ok (with_child f fs v s)) (Err (ChildrenFull at)))
    (Err (ChildrenFull at))

abbrev pub adding : Spaces → Mark → ℕ → St → Result St Refusal
adding sp at v s = adding_to s.frames sp at v s

-- 24: an alias is the node that its anchor names
abbrev pub alias_of : Option ℕ → Spaces → Mark → St → Result St Refusal
alias_of None sp at s = Err (UnknownAlias at)
alias_of (Some v) sp at s = adding sp at v s

abbrev pub aliasing : Spaces → Marked → St → Result St Refusal
aliasing sp m s = alias_of (found s.anchors m.event.anchor) sp m.start s

-- the numbers of the kinds of nodes
abbrev pub kind_number : NodeKind → ℕ
kind_number Scalar = 1
kind_number Sequence = 2
kind_number Mapping = 3

-- only a scalar has a value
abbrev pub value_for : NodeKind → List ℕ → List ℕ
value_for Scalar value = value
value_for Sequence value = []
value_for Mapping value = []

-- the value begins at a place of the text; a collection, which has none, is told place 0
abbrev pub value_place : NodeKind → ℕ → ℕ
value_place Scalar place = place
value_place Sequence place = 0
value_place Mapping place = 0

-- a node whose tag begins at a place of the text; a collection's links are told at its end
abbrev pub node_from : NodeKind → ℕ → ℕ → ℕ → ℕ → Mark → Mark → Node
node_from k style place tag value start end = record {
  kind = kind_number k;
  style = style;
  tag_length = tag;
  value_length = value;
  filler = 0;
  tag_start = place;
  value_start = value_place k (place + tag);
  first_link = 0;
  link_count = 0;
  start = start;
  end = end;
}

abbrev pub with_node : Node → List ℕ → St → St
with_node v bytes s = record {
  nodes = s.nodes ++ v ∷ [];
  links = s.links;
  text = s.text ++ bytes;
  anchors = s.anchors;
  waiting = s.waiting;
  frames = s.frames;
}

-- 25 and 26: a node with this tag and this value
abbrev pub noding_with : Spaces → NodeKind → ℕ → List ℕ → List ℕ → Mark → Mark → St → Result St Refusal
noding_with sp k style tag value start end s =
    cond (nat_lt (length s.nodes) sp.nodes)
    (cond (nat_le (length s.text + (length tag + length value)) sp.text)
    (Ok (with_node (node_from k style (length s.text) (length tag) (length value) start end) (tag ++ value) s))
    (Err (TextFull start)))
    (Err (NodesFull start))

abbrev pub noding : Spaces → NodeKind → Marked → St → Result St Refusal
noding sp k m s = noding_with sp k m.event.style (resolved k m.event.tag) (value_for k m.event.value) m.start m.end s

-- where a node begins
abbrev pub start_of : Option Node → Mark
start_of None = zero_mark
start_of (Some v) = v.start

abbrev pub with_anchor : Anchor → St → St
with_anchor a s = record {
  nodes = s.nodes;
  links = s.links;
  text = s.text;
  anchors = s.anchors ++ a ∷ [];
  waiting = s.waiting;
  frames = s.frames;
}

-- 27 and 28: the name is given to the newest node
abbrev pub naming_by : Option ℕ → Spaces → Mark → List ℕ → St → Result St Refusal
naming_by (Some v) sp at bytes s = Err (AnchorAgain at (start_of (numbered s.nodes v)))
naming_by None sp at bytes s =
    cond (nat_lt (length s.anchors) sp.anchors) (Ok (with_anchor (entry_of bytes (length s.nodes)) s)) (Err (AnchorsFull at))

abbrev pub registering : List ℕ → Spaces → Mark → St → Result St Refusal
registering [] sp at s = Ok s
registering (b ∷ bs) sp at s = naming_by (found s.anchors (b ∷ bs)) sp at (b ∷ bs) s

-- a whole node that is no collection: the node, its anchor, its place as a child
abbrev pub adding_newest : Spaces → Mark → St → Result St Refusal
adding_newest sp at s = adding sp at (length s.nodes) s

abbrev pub naming_adding : Spaces → Marked → St → Result St Refusal
naming_adding sp m s = next (registering m.event.anchor sp m.start s) (adding_newest sp m.start)

abbrev pub node_step : Spaces → NodeKind → Marked → St → Result St Refusal
node_step sp k m s = next (noding sp k m s) (naming_adding sp m)

-- 30: the newest node is open
abbrev pub is_mapping : NodeKind → Bool
is_mapping Scalar = false
is_mapping Sequence = false
is_mapping Mapping = true

abbrev pub with_frame : Frame → St → St
with_frame f s = record {
  nodes = s.nodes;
  links = s.links;
  text = s.text;
  anchors = s.anchors;
  waiting = s.waiting;
  frames = f ∷ s.frames;
}

abbrev pub opened : Bool → ℕ → Frame
opened mapping v = record { node = v; children = 0; mapping = mapping }

abbrev pub opening : NodeKind → Mark → St → Result St Refusal
opening k at s =
    cond (nat_lt (length s.frames) 256) (Ok (with_frame (opened (is_mapping k) (length s.nodes)) s)) (Err (TooDeep at))

abbrev pub start_step : Spaces → NodeKind → Marked → St → Result St Refusal
start_step sp k m s = next (node_step sp k m s) (opening k m.start)

-- the end of the innermost open collection: its children are placed after the links already placed
abbrev pub linked : Node → ℕ → ℕ → Mark → Node
linked v first count end = record {
  kind = v.kind;
  style = v.style;
  tag_length = v.tag_length;
  value_length = v.value_length;
  filler = v.filler;
  tag_start = v.tag_start;
  value_start = v.value_start;
  first_link = first;
  link_count = count;
  start = v.start;
  end = end;
}

abbrev pub linked_at : List Node → ℕ → Option Node → ℕ → ℕ → Mark → List Node
linked_at vs number None first count end = vs
linked_at vs number (Some v) first count end = slice_set vs (number - 1) (linked v first count end)

abbrev pub closed_by : Frame → List Frame → Mark → St → St
closed_by f fs end s = record {
  nodes = linked_at s.nodes f.node (numbered s.nodes f.node) (length s.links) f.children end;
  links = s.links ++ drop (length s.waiting - f.children) s.waiting;
  text = s.text;
  anchors = s.anchors;
  waiting = take (length s.waiting - f.children) s.waiting;
  frames = fs;
}

abbrev pub closing : List Frame → Mark → St → Result St Refusal
closing [] end s = Ok s
closing (f ∷ fs) end s = Ok (closed_by f fs end s)

-- what an event in turn does
abbrev pub taken : EventKind → Spaces → Marked → St → Result St Refusal
taken StreamStart sp m s = Ok s
taken StreamEnd sp m s = Ok s
taken DocumentStart sp m s = Ok s
taken DocumentEnd sp m s = Ok s
taken Alias sp m s = aliasing sp m s
taken ScalarEvent sp m s = node_step sp Scalar m s
taken SequenceStart sp m s = start_step sp Sequence m s
taken SequenceEnd sp m s = closing s.frames m.end s
taken MappingStart sp m s = start_step sp Mapping m s
taken MappingEnd sp m s = closing s.frames m.end s

-- what an event does
abbrev pub taking : Spaces → Marked → St → Result St Refusal
taking sp m s = cond (in_turn m.event.kind s) (taken m.event.kind sp m s) (Err (NotInTurn m.start))
