-- Where the nodes begin and end, told by the events alone.
use Rattle.std.specs.Prelude.{◌≡◌, ℕ, zero, suc, true, List, [], ◌∷◌, ◌++◌, map, length, Option, Ok, Some}
use Rattle.model.specs.declared.EventKind.{EventKind}
use Rattle.model.specs.declared.EventKind.TheVariants.{StreamStart, StreamEnd, DocumentStart, DocumentEnd, Alias, Scalar, SequenceStart, SequenceEnd, MappingStart, MappingEnd}
use Rattle.model.specs.declared.Mark.{Mark}
use Rattle.model.specs.declared.Fault.{Fault}
use Rattle.model.specs.Events.{Ev, all_allowed}
use Rattle.model.specs.Reading.{Marked, bare}
use Rattle.document.specs.declared.node.Node.{Node}
use Rattle.composer.specs.State.{blank, Spaces}
use Rattle.loader.specs.declared.answer.Loaded.{Loaded}
use Rattle.loader.specs.Loading.{Outcome, running}

-- where each node begins and ends, and the places, from 0, of the open collections, innermost first
pub record Spans : Type 0 where
  pub nodes : List (Mark × Mark)
  pub opens : List ℕ

abbrev pub no_spans : Spans
no_spans = record { nodes = []; opens = [] }

-- the node at a place ends there
abbrev pub ends_at : List (Mark × Mark) → ℕ → Mark → List (Mark × Mark)
ends_at [] i stop = []
ends_at (x ∷ xs) zero stop = (x.0, stop) ∷ xs
ends_at (x ∷ xs) (suc i) stop = x ∷ ends_at xs i stop

-- a node more, from where its event begins to where it ends
abbrev pub with_span : Marked → Spans → Spans
with_span m s = record { nodes = s.nodes ++ (m.start, m.end) ∷ []; opens = s.opens }

-- the newest node is an open collection
abbrev pub opened_span : ℕ → Spans → Spans
opened_span n s = record { nodes = s.nodes; opens = n ∷ s.opens }

-- the innermost open collection ends where the event ends
abbrev pub ended_span : List ℕ → Marked → Spans → Spans
ended_span [] m s = s
ended_span (i ∷ others) m s = record { nodes = ends_at s.nodes i m.end; opens = others }

abbrev pub spanned : EventKind → Marked → Spans → Spans
spanned StreamStart m s = s
spanned StreamEnd m s = s
spanned DocumentStart m s = s
spanned DocumentEnd m s = s
spanned Alias m s = s
spanned Scalar m s = with_span m s
spanned SequenceStart m s = opened_span (length s.nodes) (with_span m s)
spanned SequenceEnd m s = ended_span s.opens m s
spanned MappingStart m s = opened_span (length s.nodes) (with_span m s)
spanned MappingEnd m s = ended_span s.opens m s

abbrev pub spans_of : Spans → List Marked → Spans
spans_of s [] = s
spans_of s (m ∷ ms) = spans_of (spanned m.event.kind m s) ms

abbrev pub span_of : Node → Mark × Mark
span_of v = (v.start, v.end)

-- every node that was loaded begins and ends where the events say, and so does the document
pub record MarkedNodes (start : Marked) (ms : List Marked) (l : Loaded) (o : Outcome) : Type 0 where
  pub events : List Marked
  pub last : Marked
  pub rest : List Marked
  pub parts : ms ≡ events ++ last ∷ rest
  pub nodes : map span_of o.holds.nodes ≡ (spans_of no_spans events).nodes
  pub begins : l.start ≡ start.start
  pub ends : l.end ≡ last.end

abbrev pub LoadedMarks : Type 0
LoadedMarks = (sp : Spaces) (start : Marked) (after : Option Fault) (latest : Option Ev) (ms : List Marked) (l : Loaded) → all_allowed (map bare ms) ≡ true
    → (running sp start after latest blank ms).answer ≡ Ok (Some l) → MarkedNodes start ms l (running sp start after latest blank ms)
