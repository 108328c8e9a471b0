-- How the loader's code relates to the definition of loading.
use Rattle.std.specs.Prelude.{◌≡◌, [], Some, None, Ok, Err, Option, Result}
use Rattle.model.specs.declared.Fault.{Fault}
use Rattle.model.specs.Reading.{Marked}
use Rattle.yaml.specs.declared.event.Head.{Head}
use Rattle.yaml.specs.Shapes.{head_of}
use Rattle.yaml.specs.Flow.{Flow, Came}
use Rattle.tables.specs.Stacks.{room_of}
use Rattle.document.specs.declared.refusal.Refusal.{Refusal as NoDocument}
use Rattle.document.specs.declared.standing.Document.{Document}
use Rattle.document.specs.Books.{Stands}
use Rattle.document.specs.Check.{Handed, handed, Refused}
use Rattle.document.specs.Empty.{empty_node}
use Rattle.composer.specs.declared.stacks.Tables.{Tables}
use Rattle.composer.specs.declared.refusal.Refusal.{Refusal}
use Rattle.composer.specs.declared.refusal.Refusal.TheVariants.{EarlierRefused, SourceFault, NoEvent}
use Rattle.composer.specs.Names.{empty_anchor}
use Rattle.composer.specs.State.{St, Spaces}
use Rattle.composer.specs.Holding.{state_of, lengths_of, base_of, AllClean}
use Rattle.loader.specs.declared.answer.Loaded.{Loaded}
use Rattle.loader.specs.declared.answer.Phase.{Phase}
use Rattle.loader.specs.declared.answer.Phase.TheVariants.{Fresh, Between, Ended, Spoilt}
use Rattle.loader.specs.Loading.{Answer, kept, Outcome, missing, refused, stream_ended, running, between, fresh, loading, filled}

-- an event came, and its head is told
pub record HeadCame (before : Flow) (h : Head) (after : Flow) : Type 0 where
  pub one : Marked
  pub came : Came before one after
  pub told : h ≡ head_of one

-- none came, and why is told
pub record NoneCame (before : Flow) (e : Refusal) (after : Flow) : Type 0 where
  pub none_left : before.coming.events ≡ []
  pub why : e ≡ missing before.coming.after
  pub same : after ≡ before

-- 21 and 22: what a source gave, or why it gave no event
abbrev pub given : {T : Type 0} → Result (Option T) Fault → Result T Refusal
given (Ok (Some x)) = Ok x
given (Ok None) = Err NoEvent
given (Err f) = Err (SourceFault f)

-- the start of a document, which has no texts, by its head
abbrev pub start_marked : Head → Marked
start_marked h = record { event = record { kind = h.kind; style = h.style; flags = h.flags; anchor = []; tag = []; value = [] }; start = h.start; end = h.end }

-- the definition, on what is left of a source
abbrev pub running_on : Spaces → Marked → Flow → St → Outcome
running_on sp start f s = running sp start f.coming.after f.latest s f.coming.events

abbrev pub between_on : Spaces → Flow → Outcome
between_on sp f = between sp f.coming.after f.latest f.coming.events

abbrev pub fresh_on : Spaces → Flow → Outcome
fresh_on sp f = fresh sp f.coming.after f.latest f.coming.events

abbrev pub loading_on : Spaces → Phase → Flow → Outcome
loading_on sp Fresh f = fresh_on sp f
loading_on sp Between f = between_on sp f
loading_on sp Ended f = stream_ended f
loading_on sp Spoilt f = refused EarlierRefused f

-- the outcome is a document, which the tables hold
pub record WithDocument (o : Outcome) (before : Tables) (l : Loaded) (after : Tables) (f : Flow) : Type 0 where
  pub told : o ≡ record { answer = Ok (Some l); holds = kept (state_of after); phase = Between; flow = f }
  pub base : base_of after ≡ base_of before
  pub clean : AllClean before → AllClean after

-- it is the stream's end, and the tables are as they were
pub record AtEnd (o : Outcome) (before after : Tables) (f : Flow) : Type 0 where
  pub told : o ≡ stream_ended f
  pub same : after ≡ before

-- it is a refusal; what the tables hold is not said
pub record WithRefusal (o : Outcome) (before : Tables) (e : Refusal) (after : Tables) (f : Flow) : Type 0 where
  pub told : o ≡ refused e f
  pub base : base_of after ≡ base_of before

-- what comes of the events within a document
abbrev pub Runs : Outcome → Tables → Result Loaded Refusal → Tables → Flow → Type 0
Runs o before (Ok l) after f = WithDocument o before l after f
Runs o before (Err e) after f = WithRefusal o before e after f

-- what comes of a load
abbrev pub Ends : Outcome → Tables → Answer → Tables → Flow → Type 0
Ends o before (Ok (Some l)) after f = WithDocument o before l after f
Ends o before (Ok None) after f = AtEnd o before after f
Ends o before (Err e) after f = WithRefusal o before e after f

-- One load: the answer, every entry of the five tables, the loader's phase and what is left of the source are those of the outcome; the tables are the same ones.
pub record ComesTo (o : Outcome) (before : Tables) (answer : Answer) (phase : Phase) (f : Flow) (after : Tables) : Type 0 where
  pub answered : answer ≡ o.answer
  pub nodes : after.nodes.items.now ≡ filled (room_of before.nodes) empty_node o.holds.nodes
  pub links : after.links.items.now ≡ filled (room_of before.links) 0 o.holds.links
  pub text : after.text.items.now ≡ filled (room_of before.text) 0 o.holds.text
  pub anchors : after.anchors.items.now ≡ filled (room_of before.anchors) empty_anchor o.holds.anchors
  pub waiting : after.waiting.items.now ≡ filled (room_of before.waiting) 0 o.holds.waiting
  pub next_phase : phase ≡ o.phase
  pub left : f ≡ o.flow
  pub base : base_of after ≡ base_of before

abbrev pub Loads : Phase → Flow → Tables → Answer → Phase → Flow → Tables → Type 0
Loads phase f before answer phase' f' after = ComesTo (loading (lengths_of before) phase f) before answer phase' f' after

-- what these tables hand in to a Document for what was loaded
abbrev pub handed_by : Tables → Loaded → Handed
handed_by t l = handed t.nodes.items.now t.links.items.now t.text.items.now l.nodes

-- a Document that stands on them, or why there is none
abbrev pub StoodOn : Tables → Loaded → Result Document NoDocument → Type 0
StoodOn t l (Ok d) = Stands (handed_by t l) l.start_implicit l.end_implicit d
StoodOn t l (Err f) = Refused (handed_by t l) f
