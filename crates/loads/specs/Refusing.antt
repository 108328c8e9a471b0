-- Why an event is refused.
use Rattle.std.specs.Prelude.{◌≡◌, ℕ, suc, ◌+◌, ◌<◌, ◌≤◌, true, ◌≢◌, ◌⊎◌, List, [], ◌∷◌, ◌++◌, map, length, Some, None, Err, Option}
use Rattle.model.specs.declared.EventKind.{EventKind}
use Rattle.model.specs.declared.EventKind.TheVariants.{StreamStart, StreamEnd, DocumentStart, DocumentEnd, Alias, Scalar as ScalarEvent, SequenceStart, SequenceEnd, MappingStart, MappingEnd}
use Rattle.model.specs.declared.NodeKind.{NodeKind}
use Rattle.model.specs.declared.Fault.{Fault}
use Rattle.model.specs.Events.{Ev, allowed, all_allowed}
use Rattle.model.specs.Graph.{Vertex, numbered}
use Rattle.model.specs.Reading.{Marked, bare}
use Rattle.serial.specs.Walk.{is_collection}
use Rattle.serial.specs.Serialize.{start_kind, end_kind}
use Rattle.serial.specs.Compose.{Frame as OpenOne}
use Rattle.serial.specs.Compose.{frame, Composed, named, Takes, Complete, look_of}
use Rattle.serial.specs.Stocks.{text_of}
use Rattle.composer.specs.declared.frames.Frame.{Frame}
use Rattle.composer.specs.declared.refusal.Refusal.{Refusal}
use Rattle.composer.specs.declared.refusal.Refusal.TheVariants.{NotInTurn, UnknownAlias, NodesFull, TextFull, AnchorAgain, AnchorsFull, ChildrenFull, TooDeep}
use Rattle.composer.specs.State.{St, blank, Spaces}
use Rattle.composer.specs.Steps.{start_of, taking}
use Rattle.loader.specs.Loading.{missing, running}
use Rattle.loads.specs.Tidy.{composed_of, Tidy}
use Rattle.loads.specs.Runs.{Went}

-- the document has no root yet, or a collection is open
pub record TakesChild (c : Composed) : Type 0 where
  pub to : ℕ
  pub children : List ℕ
  pub others : List OpenOne
  pub is : c.open_ones ≡ frame to children ∷ others
  pub takes : Takes to children

-- the event ends the innermost open collection, which is complete
pub record EndsOne (c : Composed) (e : Ev) : Type 0 where
  pub number : ℕ
  pub children : List ℕ
  pub others : List OpenOne
  pub node : Vertex
  pub is : c.open_ones ≡ frame (suc number) children ∷ others
  pub here : numbered c.nodes (suc number) ≡ Some node
  pub collection : is_collection node.look.kind ≡ true
  pub kind : e.kind ≡ end_kind node.look.kind
  pub whole : Complete node.look.kind children

-- the event's turn
abbrev pub InTurn : EventKind → Composed → Ev → Type 0
InTurn StreamStart c e = ⊥
InTurn StreamEnd c e = ⊥
InTurn DocumentStart c e = ⊥
InTurn DocumentEnd c e = c.open_ones ≡ frame 0 (1 ∷ []) ∷ []
InTurn Alias c e = TakesChild c
InTurn ScalarEvent c e = TakesChild c
InTurn SequenceStart c e = TakesChild c
InTurn SequenceEnd c e = EndsOne c e
InTurn MappingStart c e = TakesChild c
InTurn MappingEnd c e = EndsOne c e

-- the event of a node of this kind, in turn
pub record Gives (k : NodeKind) (m : Marked) (s : St) : Type 0 where
  pub kind : m.event.kind ≡ start_kind k
  pub turn : TakesChild (composed_of s)

pub record NamesNode (m : Marked) (s : St) : Type 0 where
  pub kind : m.event.kind ≡ Alias
  pub turn : TakesChild (composed_of s)

-- there is space for the node and its text
pub record NodeSpace (sp : Spaces) (k : NodeKind) (m : Marked) (s : St) : Type 0 where
  pub nodes : length s.nodes < sp.nodes
  pub text : length s.text + text_of (look_of k m.event) ≤ sp.text

-- the anchor, if there is one, is new, and there is space for it
abbrev pub NameSpace : List ℕ → Spaces → St → Type 0
NameSpace [] sp s = Unit {0}
NameSpace (b ∷ bs) sp s = (named (b ∷ bs) (composed_of s).names ≡ None) × (length s.anchors < sp.anchors)

-- there is space for a child of the innermost open collection, if there is one
abbrev pub ChildSpace : List Frame → Spaces → St → Type 0
ChildSpace [] sp s = Unit {0}
ChildSpace (f ∷ fs) sp s = (length s.waiting < sp.waiting) × (length s.links + length s.waiting < sp.links)

-- there is none
abbrev pub NoChildSpace : List Frame → Spaces → St → Type 0
NoChildSpace [] sp s = ⊥
NoChildSpace (f ∷ fs) sp s = (sp.waiting ≤ length s.waiting) ⊎ (sp.links ≤ length s.links + length s.waiting)

-- each refusal, with what was asked before it and what is asked by it
pub data Why (sp : Spaces) (m : Marked) (s : St) : Refusal → Type 0 where
  not_in_turn : {e : Refusal} → e ≡ NotInTurn m.start → (InTurn m.event.kind (composed_of s) m.event → ⊥) → Why sp m s e
  unknown_alias : {e : Refusal} → e ≡ UnknownAlias m.start → NamesNode m s → named m.event.anchor (composed_of s).names ≡ None → Why sp m s e
  alias_full : {e : Refusal} (v : ℕ) → e ≡ ChildrenFull m.start → NamesNode m s → named m.event.anchor (composed_of s).names ≡ Some v
      → NoChildSpace s.frames sp s → Why sp m s e
  nodes_full : {e : Refusal} (k : NodeKind) → e ≡ NodesFull m.start → Gives k m s → sp.nodes ≤ length s.nodes → Why sp m s e
  text_full : {e : Refusal} (k : NodeKind) → e ≡ TextFull m.start → Gives k m s → length s.nodes < sp.nodes → sp.text < length s.text + text_of (look_of k m.event) → Why sp m s e
  anchor_again : {e : Refusal} (k : NodeKind) (v : ℕ) → e ≡ AnchorAgain m.start (start_of (numbered s.nodes v)) → Gives k m s → NodeSpace sp k m s
      → m.event.anchor ≢ [] → named m.event.anchor (composed_of s).names ≡ Some v → Why sp m s e
  anchors_full : {e : Refusal} (k : NodeKind) → e ≡ AnchorsFull m.start → Gives k m s → NodeSpace sp k m s
      → m.event.anchor ≢ [] → named m.event.anchor (composed_of s).names ≡ None → sp.anchors ≤ length s.anchors → Why sp m s e
  children_full : {e : Refusal} (k : NodeKind) → e ≡ ChildrenFull m.start → Gives k m s → NodeSpace sp k m s → NameSpace m.event.anchor sp s
      → NoChildSpace s.frames sp s → Why sp m s e
  too_deep : {e : Refusal} (k : NodeKind) → e ≡ TooDeep m.start → is_collection k ≡ true → Gives k m s → NodeSpace sp k m s → NameSpace m.event.anchor sp s
      → ChildSpace s.frames sp s → 256 ≤ length s.frames → Why sp m s e

-- an event is refused exactly for these reasons
pub record ExactlyRefused (sp : Spaces) (m : Marked) (s : St) (e : Refusal) : Type 0 where
  pub because : taking sp m s ≡ Err e → Why sp m s e
  pub so : Why sp m s e → taking sp m s ≡ Err e

abbrev pub StepRefused : Type 0
StepRefused = (sp : Spaces) (m : Marked) (s : St) (e : Refusal) → allowed m.event ≡ true → Tidy s → ExactlyRefused sp m s e

-- a document is refused since no event came after accepted ones, or by the first event that is refused
pub record FirstRefused (sp : Spaces) (ms : List Marked) (e : Refusal) : Type 0 where
  pub events : List Marked
  pub at : Marked
  pub rest : List Marked
  pub state : St
  pub parts : ms ≡ events ++ at ∷ rest
  pub went : Went sp blank events state
  pub why : Why sp at state e

pub record CameShort (sp : Spaces) (after : Option Fault) (ms : List Marked) (e : Refusal) : Type 0 where
  pub state : St
  pub went : Went sp blank ms state
  pub is : e ≡ missing after

abbrev pub RunRefused : Type 0
RunRefused = (sp : Spaces) (start : Marked) (after : Option Fault) (latest : Option Ev) (ms : List Marked) (e : Refusal) → all_allowed (map bare ms) ≡ true
    → (running sp start after latest blank ms).answer ≡ Err e → FirstRefused sp ms e ⊎ CameShort sp after ms e
