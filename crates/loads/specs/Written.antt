-- Loading the events that a document was serialized to.
use Rattle.std.specs.Prelude.{◌≡◌, ℕ, ◌≤◌, true, List, ◌∷◌, ◌++◌, map, length, Some, Option, Err}
use Rattle.model.specs.declared.Fault.{Fault}
use Rattle.model.specs.Events.{Ev, all_allowed}
use Rattle.model.specs.Graph.{Vertex, Book, Alike}
use Rattle.model.specs.Reading.{Marked, bare}
use Rattle.yaml.specs.Flow.{Flow}
use Rattle.serial.specs.Walk.{Token, Walk}
use Rattle.serial.specs.Serialize.{walk_events}
use Rattle.serial.specs.RoundTrip.{Sound, Tells, with_nodes}
use Rattle.serial.specs.Stocks.{all_links, all_text}
use Rattle.composer.specs.State.{blank, Spaces}
use Rattle.loader.specs.Loading.{Outcome, is_document_end, flowing, missing, running}
use Rattle.loads.specs.Room.{LoadedAs}

-- there is space for the document
pub record SpaceFor (sp : Spaces) (g : List Vertex) : Type 0 where
  pub nodes : length g ≤ sp.nodes
  pub anchors : length g ≤ sp.anchors
  pub text : all_text g ≤ sp.text
  pub links : all_links g ≤ sp.links
  pub waits : all_links g ≤ sp.waiting

-- what was loaded is alike
pub record LoadedAlike (b : Book) (start last : Marked) (f : Flow) (o : Outcome) : Type 0 where
  pub back : List Vertex
  pub loaded : LoadedAs back start last f o
  pub alike : Alike b (with_nodes b back)

-- the events of a walk, at most 256 collections deep, are loaded to a document that is alike, whatever their marks and whatever follows
abbrev pub WalkLoads : Type 0
WalkLoads = (sp : Spaces) (start : Marked) (after : Option Fault) (latest : Option Ev) (es rest : List Marked) (last : Marked)
    → (b : Book) (ts : List Token) (seen : List ℕ) (anchors : ℕ → List ℕ) → Sound b.nodes → Walk b.nodes 256 ts seen → Tells anchors ts → SpaceFor sp b.nodes
    → all_allowed (walk_events anchors b.nodes ts) ≡ true → map bare es ≡ walk_events anchors b.nodes ts → is_document_end last.event.kind ≡ true
    → LoadedAlike b start last (flowing (Some last.event) rest after) (running sp start after latest blank (es ++ last ∷ rest))

-- and where they break off, there is no event
abbrev pub WalkStops : Type 0
WalkStops = (sp : Spaces) (start : Marked) (after : Option Fault) (latest : Option Ev) (es : List Marked) (later : List Ev)
    → (b : Book) (ts : List Token) (seen : List ℕ) (anchors : ℕ → List ℕ) → Sound b.nodes → Walk b.nodes 256 ts seen → Tells anchors ts → SpaceFor sp b.nodes
    → all_allowed (walk_events anchors b.nodes ts) ≡ true → map bare es ++ later ≡ walk_events anchors b.nodes ts
    → (running sp start after latest blank es).answer ≡ Err (missing after)
