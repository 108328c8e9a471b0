-- How much there may be while a document is composed, and loading exactly where there is no more.
use Rattle.std.specs.Prelude.{◌≡◌, suc, ◌+◌, ◌≤◌, true, List, [], ◌∷◌, ◌++◌, map, length, Some, Ok, Option, Err}
use Rattle.model.specs.declared.Fault.{Fault}
use Rattle.model.specs.Events.{Ev, allowed, all_allowed}
use Rattle.model.specs.Graph.{Vertex}
use Rattle.model.specs.Reading.{Marked, bare}
use Rattle.serial.specs.Compose.{frame, Composed, TakesIn, TakesAll, beginning, Composes}
use Rattle.serial.specs.Stocks.{all_text, waiting, stock}
use Rattle.composer.specs.State.{St, blank, Spaces}
use Rattle.composer.specs.Steps.{taking}
use Rattle.loader.specs.declared.answer.Loaded.{Loaded}
use Rattle.yaml.specs.Flow.{Flow}
use Rattle.loader.specs.Loading.{Outcome, is_document_end, flowing, missing, complete, running}
use Rattle.loads.specs.Tidy.{composed_of, Tidy}
use Rattle.loads.specs.Runs.{graph_in}

-- no more nodes, text and anchors than there is space for; no more links placed and children waiting, to which the root, the document's child, is added;
-- at most 256 collections open, and the document
pub record Fits (sp : Spaces) (c : Composed) : Type 0 where
  pub nodes : length c.nodes ≤ sp.nodes
  pub text : all_text c.nodes ≤ sp.text
  pub names : length c.names ≤ sp.anchors
  pub links : stock c ≤ suc sp.links
  pub waits : waiting c.open_ones ≤ suc sp.waiting
  pub opens : length c.open_ones ≤ 257

-- events one after the other, each state with space
pub data TakesWithin (sp : Spaces) : Composed → List Ev → Composed → Type 0 where
  none : {s : Composed} → TakesWithin sp s [] s
  more : {s t u : Composed} {e : Ev} {es : List Ev} → TakesIn s e t → Fits sp t → TakesWithin sp t es u → TakesWithin sp s (e ∷ es) u

-- what composing takes in, with space for what comes of it, is accepted
pub record Accepted (sp : Spaces) (m : Marked) (s : St) (c : Composed) : Type 0 where
  pub to : St
  pub taken : taking sp m s ≡ Ok to
  pub stands : composed_of to ≡ c
  pub tidy : Tidy to

abbrev pub StepAccepted : Type 0
StepAccepted = (sp : Spaces) (m : Marked) (s : St) (c : Composed) → allowed m.event ≡ true → Tidy s
    → TakesIn (composed_of s) m.event c → Fits sp c → Accepted sp m s c

-- how much the tables hold at most
pub record Within (sp : Spaces) (s : St) : Type 0 where
  pub nodes : length s.nodes ≤ sp.nodes
  pub text : length s.text ≤ sp.text
  pub anchors : length s.anchors ≤ sp.anchors
  pub links : length s.links + length s.waiting ≤ sp.links
  pub waits : length s.waiting ≤ sp.waiting
  pub opens : length s.frames ≤ 256

-- a step that is accepted keeps within the space
abbrev pub StepWithin : Type 0
StepWithin = (sp : Spaces) (m : Marked) (s t : St) → Within sp s → taking sp m s ≡ Ok t → Within sp t

-- the events compose to a whole document, with space all the way
pub record Loadable (sp : Spaces) (es : List Ev) : Type 0 where
  pub end_state : Composed
  pub within : TakesWithin sp beginning es end_state
  pub whole : end_state.open_ones ≡ frame 0 (1 ∷ []) ∷ []

-- some of the events, up to a document's end, are loadable
pub record LoadableFront (sp : Spaces) (ms : List Marked) : Type 0 where
  pub events : List Marked
  pub last : Marked
  pub rest : List Marked
  pub parts : ms ≡ events ++ last ∷ rest
  pub ends : is_document_end last.event.kind ≡ true
  pub loadable : Loadable sp (map bare events)

-- a document is loaded exactly where that is so
pub record ExactlyLoaded (sp : Spaces) (start : Marked) (after : Option Fault) (latest : Option Ev) (ms : List Marked) : Type 0 where
  pub loaded : LoadableFront sp ms → (l : Loaded) × ((running sp start after latest blank ms).answer ≡ Ok (Some l))
  pub only : (l : Loaded) → (running sp start after latest blank ms).answer ≡ Ok (Some l) → LoadableFront sp ms

abbrev pub LoadedExactly : Type 0
LoadedExactly = (sp : Spaces) (start : Marked) (after : Option Fault) (latest : Option Ev) (ms : List Marked) → all_allowed (map bare ms) ≡ true → ExactlyLoaded sp start after latest ms

-- every state that composing the events goes through has space
abbrev pub EventsFit : Spaces → List Ev → Type 0
EventsFit sp es = (done later : List Ev) (c : Composed) → TakesAll beginning done c → done ++ later ≡ es → Fits sp c

-- the outcome is the loaded document with these marks and this graph
pub record LoadedAs (g : List Vertex) (start last : Marked) (f : Flow) (o : Outcome) : Type 0 where
  pub state : St
  pub tidy : Tidy state
  pub graph : graph_in state ≡ g
  pub is : o ≡ complete start last state f

-- events that compose, with space all the way, are loaded, whatever their marks and whatever follows the document's end
abbrev pub ComposedLoads : Type 0
ComposedLoads = (sp : Spaces) (start : Marked) (after : Option Fault) (latest : Option Ev) (es rest : List Marked) (last : Marked) (g : List Vertex)
    → all_allowed (map bare es) ≡ true → Composes (map bare es) g → EventsFit sp (map bare es) → is_document_end last.event.kind ≡ true
    → LoadedAs g start last (flowing (Some last.event) rest after) (running sp start after latest blank (es ++ last ∷ rest))

-- events that stop within the document, with space all the way, are refused since there is no event, or by the source's fault
abbrev pub StopsWithin : Type 0
StopsWithin = (sp : Spaces) (start : Marked) (after : Option Fault) (latest : Option Ev) (es : List Marked) (c : Composed)
    → all_allowed (map bare es) ≡ true → TakesAll beginning (map bare es) c → EventsFit sp (map bare es)
    → (running sp start after latest blank es).answer ≡ Err (missing after)
