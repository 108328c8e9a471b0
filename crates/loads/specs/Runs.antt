-- Whole runs: the events of a document, one after the other, and what loading them comes to.
use Rattle.std.specs.Prelude.{◌≡◌, true, false, List, [], ◌∷◌, ◌++◌, map, Some, Ok, Option}
use Rattle.model.specs.declared.Fault.{Fault}
use Rattle.model.specs.Events.{Ev, all_allowed}
use Rattle.model.specs.Graph.{Vertex}
use Rattle.model.specs.Reading.{Marked, bare}
use Rattle.document.specs.Books.{graph_of}
use Rattle.serial.specs.Compose.{TakesAll, Composes}
use Rattle.composer.specs.State.{St, blank, Spaces}
use Rattle.composer.specs.Steps.{ends_document, taking}
use Rattle.loader.specs.declared.answer.Loaded.{Loaded}
use Rattle.loader.specs.Loading.{Outcome, is_document_end, flowing, complete, running}
use Rattle.loads.specs.Tidy.{composed_of, Tidy}

-- events one after the other, each accepted, none of them a document's end
pub data Went (sp : Spaces) : St → List Marked → St → Type 0 where
  none : {s : St} → Went sp s [] s
  more : {s t u : St} {m : Marked} {ms : List Marked} → is_document_end m.event.kind ≡ false → taking sp m s ≡ Ok t → Went sp t ms u → Went sp s (m ∷ ms) u

-- the graph that the tables stand for
abbrev pub graph_in : St → List Vertex
graph_in s = graph_of s.nodes s.links s.text

-- a run that was loaded: its events up to the document's end were accepted, and the root is complete
pub record Ran (sp : Spaces) (start : Marked) (after : Option Fault) (s : St) (ms : List Marked) (o : Outcome) : Type 0 where
  pub events : List Marked
  pub last : Marked
  pub rest : List Marked
  pub end_state : St
  pub parts : ms ≡ events ++ last ∷ rest
  pub ends : is_document_end last.event.kind ≡ true
  pub went : Went sp s events end_state
  pub whole : ends_document end_state.frames end_state.nodes ≡ true
  pub is : o ≡ complete start last end_state (flowing (Some last.event) rest after)

abbrev pub LoadedRan : Type 0
LoadedRan = (sp : Spaces) (start : Marked) (after : Option Fault) (latest : Option Ev) (s : St) (ms : List Marked) (l : Loaded)
    → (running sp start after latest s ms).answer ≡ Ok (Some l) → Ran sp start after s ms (running sp start after latest s ms)

-- and the other way round
abbrev pub RanLoaded : Type 0
RanLoaded = (sp : Spaces) (start : Marked) (after : Option Fault) (latest : Option Ev) (s t : St) (es rest : List Marked) (last : Marked)
    → Went sp s es t → is_document_end last.event.kind ≡ true → ends_document t.frames t.nodes ≡ true
    → running sp start after latest s (es ++ last ∷ rest) ≡ complete start last t (flowing (Some last.event) rest after)

-- accepted events compose
pub record ComposedSo (es : List Marked) (s t : St) : Type 0 where
  pub tidy : Tidy t
  pub taken : TakesAll (composed_of s) (map bare es) (composed_of t)

abbrev pub WentComposes : Type 0
WentComposes = (sp : Spaces) (s t : St) (es : List Marked) → all_allowed (map bare es) ≡ true → Tidy s → Went sp s es t → ComposedSo es s t

-- what was loaded is the graph that the events before the document's end compose to, and the only one
pub record Loads (ms : List Marked) (o : Outcome) : Type 0 where
  pub events : List Marked
  pub last : Marked
  pub rest : List Marked
  pub parts : ms ≡ events ++ last ∷ rest
  pub ends : is_document_end last.event.kind ≡ true
  pub composes : Composes (map bare events) (graph_in o.holds)
  pub only : (g : List Vertex) → Composes (map bare events) g → g ≡ graph_in o.holds

abbrev pub LoadComposes : Type 0
LoadComposes = (sp : Spaces) (start : Marked) (after : Option Fault) (latest : Option Ev) (ms : List Marked) (l : Loaded) → all_allowed (map bare ms) ≡ true
    → (running sp start after latest blank ms).answer ≡ Ok (Some l) → Loads ms (running sp start after latest blank ms)
