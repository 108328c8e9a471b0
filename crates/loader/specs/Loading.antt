-- Loading: what one load answers, what the five tables hold after it, where the loader is then and what is left of its source, as a function of what there was.
use Rattle.std.specs.Prelude.{ℕ, ◌-◌, Bool, true, false, cond, List, [], ◌∷◌, ◌++◌, length, replicate, Some, None, Ok, Err, Option, Result, ◌==◌}
use Rattle.model.specs.declared.EventKind.{EventKind}
use Rattle.model.specs.declared.EventKind.TheVariants.{StreamStart, StreamEnd, DocumentStart, DocumentEnd, Alias, Scalar, SequenceStart, SequenceEnd, MappingStart, MappingEnd}
use Rattle.model.specs.declared.Fault.{Fault}
use Rattle.model.specs.Events.{Ev}
use Rattle.model.specs.Reading.{Marked}
use Rattle.yaml.specs.Flow.{Flow}
use Rattle.composer.specs.declared.refusal.Refusal.{Refusal}
use Rattle.composer.specs.declared.refusal.Refusal.TheVariants.{EarlierRefused, SourceFault, NoEvent, NotInTurn}
use Rattle.composer.specs.State.{St, blank, Lengths, Spaces, spaces_for}
use Rattle.composer.specs.Steps.{taking}
use Rattle.loader.specs.declared.answer.Loaded.{Loaded}
use Rattle.loader.specs.declared.answer.Phase.{Phase}
use Rattle.loader.specs.declared.answer.Phase.TheVariants.{Fresh, Between, Ended, Spoilt}

-- what a load answers: a document's counts, or none at the stream's end, or why it is refused
abbrev pub Answer : Type 0
Answer = Result (Option Loaded) Refusal

-- what a load comes to: the answer, what the tables hold before their empty entries, the loader's next phase, what is left of the source
pub record Outcome : Type 0 where
  pub answer : Answer
  pub holds : St
  pub phase : Phase
  pub flow : Flow

abbrev pub flowing : Option Ev → List Marked → Option Fault → Flow
flowing latest ms after = record { latest = latest; coming = record { events = ms; after = after } }

abbrev pub refused : Refusal → Flow → Outcome
refused e f = record { answer = Err e; holds = blank; phase = Spoilt; flow = f }

-- 21 and 22: no event is there
abbrev pub missing : Option Fault → Refusal
missing None = NoEvent
missing (Some f) = SourceFault f

abbrev pub over : Option Ev → Option Fault → Outcome
over latest after = refused (missing after) (flowing latest [] after)

-- a document with this start and this end is complete
abbrev pub counted : Marked → Marked → St → Loaded
counted start end s = record {
  nodes = length s.nodes;
  links = length s.links;
  text = length s.text;
  anchors = length s.anchors;
  start_implicit = (start.event.flags == 1);
  end_implicit = (end.event.flags == 1);
  start = start.start;
  end = end.end;
}

-- the document itself: anchors and waiting children are gone
abbrev pub kept : St → St
kept s = record { nodes = s.nodes; links = s.links; text = s.text; anchors = []; waiting = []; frames = [] }

abbrev pub complete : Marked → Marked → St → Flow → Outcome
complete start end s f = record { answer = Ok (Some (counted start end s)); holds = kept s; phase = Between; flow = f }

-- the document's end alone; told kind by kind, as the theorems read it
abbrev pub is_document_end : EventKind → Bool
is_document_end StreamStart = false
is_document_end StreamEnd = false
is_document_end DocumentStart = false
is_document_end DocumentEnd = true
is_document_end Alias = false
is_document_end Scalar = false
is_document_end SequenceStart = false
is_document_end SequenceEnd = false
is_document_end MappingStart = false
is_document_end MappingEnd = false

-- what comes after an event that was taken; `on` is what comes of the events after it
abbrev pub stepped : Result St Refusal → Marked → Marked → Flow → (St → Outcome) → Outcome
stepped (Err e) start m f on = refused e f
stepped (Ok s) start m f on = cond (is_document_end m.event.kind) (complete start m s f) (on s)

-- within a document that began with `start`
unfoldable pub running : Spaces → Marked → Option Fault → Option Ev → St → List Marked → Outcome
running sp start after latest s [] = over latest after
running sp start after latest s (m ∷ ms) =
    stepped (taking sp m s) start m (flowing (Some m.event) ms after) (λ t. running sp start after (Some m.event) t ms)

abbrev pub stream_ended : Flow → Outcome
stream_ended f = record { answer = Ok None; holds = blank; phase = Ended; flow = f }

-- between documents: a document's start, or the stream's end
abbrev pub begun : EventKind → Spaces → Option Fault → Marked → List Marked → Outcome
begun DocumentStart sp after m ms = running sp m after (Some m.event) blank ms
begun StreamEnd sp after m ms = stream_ended (flowing (Some m.event) ms after)
begun StreamStart sp after m ms = refused (NotInTurn m.start) (flowing (Some m.event) ms after)
begun DocumentEnd sp after m ms = refused (NotInTurn m.start) (flowing (Some m.event) ms after)
begun Alias sp after m ms = refused (NotInTurn m.start) (flowing (Some m.event) ms after)
begun Scalar sp after m ms = refused (NotInTurn m.start) (flowing (Some m.event) ms after)
begun SequenceStart sp after m ms = refused (NotInTurn m.start) (flowing (Some m.event) ms after)
begun SequenceEnd sp after m ms = refused (NotInTurn m.start) (flowing (Some m.event) ms after)
begun MappingStart sp after m ms = refused (NotInTurn m.start) (flowing (Some m.event) ms after)
begun MappingEnd sp after m ms = refused (NotInTurn m.start) (flowing (Some m.event) ms after)

abbrev pub between : Spaces → Option Fault → Option Ev → List Marked → Outcome
between sp after latest [] = over latest after
between sp after latest (m ∷ ms) = begun m.event.kind sp after m ms

-- the stream's start comes first
-- likewise
abbrev pub is_stream_start : EventKind → Bool
is_stream_start StreamStart = true
is_stream_start StreamEnd = false
is_stream_start DocumentStart = false
is_stream_start DocumentEnd = false
is_stream_start Alias = false
is_stream_start Scalar = false
is_stream_start SequenceStart = false
is_stream_start SequenceEnd = false
is_stream_start MappingStart = false
is_stream_start MappingEnd = false

abbrev pub fresh : Spaces → Option Fault → Option Ev → List Marked → Outcome
fresh sp after latest [] = over latest after
fresh sp after latest (m ∷ ms) =
    cond (is_stream_start m.event.kind) (between sp after (Some m.event) ms) (refused (NotInTurn m.start) (flowing (Some m.event) ms after))

-- one load
abbrev pub loading : Lengths → Phase → Flow → Outcome
loading l Fresh f = fresh (spaces_for l) f.coming.after f.latest f.coming.events
loading l Between f = between (spaces_for l) f.coming.after f.latest f.coming.events
loading l Ended f = stream_ended f
loading l Spoilt f = refused EarlierRefused f

-- a table of n entries: those that it holds, and empty ones
abbrev pub filled : {X : Type 0} → ℕ → X → List X → List X
filled n empty xs = xs ++ replicate (n - length xs) empty
