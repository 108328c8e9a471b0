-- The events of a walk.
use Rattle.std.specs.Prelude.{ℕ, Bool, true, cond, ◌&&◌, List, [], ◌∷◌, ◌++◌, Some, None, codes, Option, ◌==◌}
use Rattle.model.specs.declared.EventKind.{EventKind}
use Rattle.model.specs.declared.EventKind.TheVariants.{DocumentStart, DocumentEnd, Alias, Scalar as ScalarEvent, SequenceStart, SequenceEnd, MappingStart, MappingEnd}
use Rattle.model.specs.declared.NodeKind.{NodeKind}
use Rattle.model.specs.declared.NodeKind.TheVariants.{Scalar, Sequence, Mapping}
use Rattle.model.specs.Events.{Ev}
use Rattle.model.specs.Graph.{Look, Vertex, Book, numbered}
use Rattle.serial.specs.Walk.{Token, first, again, leave}
use Rattle.serial.specs.Numbering.{anchor_of}

-- the tag that a node has when its event gives none, by kind
abbrev pub default_tag : NodeKind → List ℕ
default_tag Scalar = codes "tag:yaml.org,2002:str"
default_tag Sequence = codes "tag:yaml.org,2002:seq"
default_tag Mapping = codes "tag:yaml.org,2002:map"

abbrev pub same_bytes : List ℕ → List ℕ → Bool
same_bytes [] [] = true
same_bytes [] (y ∷ ys) = mathlib.Core.Bool.false
same_bytes (x ∷ xs) [] = mathlib.Core.Bool.false
same_bytes (x ∷ xs) (y ∷ ys) = x == y && same_bytes xs ys

abbrev pub start_kind : NodeKind → EventKind
start_kind Scalar = ScalarEvent
start_kind Sequence = SequenceStart
start_kind Mapping = MappingStart

abbrev pub end_kind : NodeKind → EventKind
end_kind Scalar = ScalarEvent
end_kind Sequence = SequenceEnd
end_kind Mapping = MappingEnd

-- the flags of a node: all are set where its tag is its kind's default
abbrev pub all_flags : NodeKind → ℕ
all_flags Scalar = 3
all_flags Sequence = 1
all_flags Mapping = 1

abbrev pub flags_of : Look → ℕ
flags_of l = cond (same_bytes l.tag (default_tag l.kind)) (all_flags l.kind) 0

abbrev pub plain : EventKind → ℕ → Ev
plain k flags = record { kind = k; style = 0; flags = flags; anchor = []; tag = []; value = [] }

abbrev pub node_event : List ℕ → Look → Ev
node_event anchor l = record { kind = start_kind l.kind; style = l.style; flags = flags_of l; anchor = anchor; tag = l.tag; value = l.value }

abbrev pub alias_event : List ℕ → Ev
alias_event anchor = record { kind = Alias; style = 0; flags = 0; anchor = anchor; tag = []; value = [] }

-- a node's event and its end, with nothing where there is no such node (in a sound document there always is)
abbrev given_by : List ℕ → Option Vertex → List Ev
given_by anchor None = []
given_by anchor (Some x) = node_event anchor x.look ∷ []

abbrev ended_by : Option Vertex → List Ev
ended_by None = []
ended_by (Some x) = plain (end_kind x.look.kind) 0 ∷ []

abbrev pub token_events : (ℕ → List ℕ) → List Vertex → Token → List Ev
token_events anchors g (first v) = given_by (anchors v) (numbered g v)
token_events anchors g (again v) = alias_event (anchors v) ∷ []
token_events anchors g (leave v) = ended_by (numbered g v)

-- the events of a walk, with the anchors put on
abbrev pub walk_events : (ℕ → List ℕ) → List Vertex → List Token → List Ev
walk_events anchors g [] = []
walk_events anchors g (t ∷ ts) = token_events anchors g t ++ walk_events anchors g ts

abbrev implicit_flag : Bool → ℕ
implicit_flag b = cond b 1 0

-- the events of a document whose walk has these tokens
abbrev pub book_events : Book → List Token → List Ev
book_events b ts =
    plain DocumentStart (implicit_flag b.start_implicit)
    ∷ (walk_events (anchor_of b.nodes) b.nodes ts ++ plain DocumentEnd (implicit_flag b.end_implicit) ∷ [])
