-- One load, whole: what it gives where a document is loaded, and where it does.
use Rattle.std.specs.Prelude.{◌≡◌, ℕ, ◌≤◌, true, List, [], ◌∷◌, ◌++◌, map, length, Some, Option, ◌==◌, Ok}
use Rattle.model.specs.declared.EventKind.TheVariants.{StreamStart, DocumentStart}
use Rattle.model.specs.declared.Fault.{Fault}
use Rattle.model.specs.Events.{Ev, all_allowed}
use Rattle.model.specs.Graph.{Vertex}
use Rattle.model.specs.Reading.{Marked, bare}
use Rattle.yaml.specs.Flow.{Flow}
use Rattle.document.specs.declared.node.Node.{Node}
use Rattle.document.specs.Check.{handed}
use Rattle.serial.specs.Walk.{Token, Walk}
use Rattle.serial.specs.Walks.{LedTo}
use Rattle.serial.specs.Compose.{Composes}
use Rattle.serial.specs.RoundTrip.{Sound}
use Rattle.composer.specs.State.{blank, Lengths, spaces_for}
use Rattle.loader.specs.declared.answer.Loaded.{Loaded}
use Rattle.loader.specs.declared.answer.Phase.{Phase}
use Rattle.loader.specs.declared.answer.Phase.TheVariants.{Fresh, Between, Ended, Spoilt}
use Rattle.loader.specs.Loading.{Outcome, flowing, running, is_document_end, loading}
use Rattle.loads.specs.Runs.{graph_in}
use Rattle.loads.specs.Standing.{Stands}
use Rattle.loads.specs.Order.{down_from}
use Rattle.loads.specs.Marks.{no_spans, spans_of, span_of}

-- what stands before a document's start: the stream's start, or nothing
abbrev pub Opens : Phase → List Marked → Type 0
Opens Fresh before = (stream : Marked) × (stream.event.kind ≡ StreamStart) × (before ≡ stream ∷ [])
Opens Between before = before ≡ []
Opens Ended before = ⊥
Opens Spoilt before = ⊥

-- The document that a load gave: the events between its start and its end compose to its graph and to no other; the graph is sound, is walked in the order of
-- its numbers, and a path leads to each node; tables that begin with its entries pass the check; nodes and document begin and end where the events do;
-- what follows is left to the next load.
pub record GivenDocument (p : Phase) (f : Flow) (l : Loaded) (o : Outcome) : Type 0 where
  pub before : List Marked
  pub opens : Opens p before
  pub start : Marked
  pub events : List Marked
  pub last : Marked
  pub rest : List Marked
  pub parts : f.coming.events ≡ before ++ start ∷ (events ++ last ∷ rest)
  pub starts : start.event.kind ≡ DocumentStart
  pub ends : is_document_end last.event.kind ≡ true
  pub composes : Composes (map bare events) (graph_in o.holds)
  pub only : (g : List Vertex) → Composes (map bare events) g → g ≡ graph_in o.holds
  pub sound : Sound (graph_in o.holds)
  pub led : (v : ℕ) → 1 ≤ v → v ≤ length (graph_in o.holds) → LedTo (graph_in o.holds) v
  pub in_order : (deep : ℕ) (ts : List Token) (seen : List ℕ) → Walk (graph_in o.holds) deep ts seen → seen ≡ down_from (length (graph_in o.holds))
  pub stands : (vs : List Node) (ls ts : List ℕ) → Stands (handed (o.holds.nodes ++ vs) (o.holds.links ++ ls) (o.holds.text ++ ts) l.nodes) o.holds
  pub spans : map span_of o.holds.nodes ≡ (spans_of no_spans events).nodes
  pub begins : l.start ≡ start.start
  pub stops : l.end ≡ last.end
  pub start_implicit : l.start_implicit ≡ (start.event.flags == 1)
  pub end_implicit : l.end_implicit ≡ (last.event.flags == 1)
  pub left : o.flow ≡ flowing (Some last.event) rest f.coming.after

abbrev pub LoadGives : Type 0
LoadGives = (n : Lengths) (p : Phase) (f : Flow) (l : Loaded) → all_allowed (map bare f.coming.events) ≡ true
    → (loading n p f).answer ≡ Ok (Some l) → GivenDocument p f l (loading n p f)

-- a document that comes next is run, between documents and after the stream's start
pub record RunsNext (n : Lengths) (latest : Option Ev) (after : Option Fault) (start : Marked) (ms : List Marked) : Type 0 where
  pub between : loading n Between (flowing latest (start ∷ ms) after) ≡ running (spaces_for n) start after (Some start.event) blank ms
  pub first : (stream : Marked) → stream.event.kind ≡ StreamStart
      → loading n Fresh (flowing latest (stream ∷ (start ∷ ms)) after) ≡ running (spaces_for n) start after (Some start.event) blank ms

abbrev pub LoadRuns : Type 0
LoadRuns = (n : Lengths) (latest : Option Ev) (after : Option Fault) (start : Marked) (ms : List Marked) → start.event.kind ≡ DocumentStart → RunsNext n latest after start ms
