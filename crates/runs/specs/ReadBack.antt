-- Reading back what a sink took: one loader loads again and again, each time with full-sized tables.
use Rattle.std.specs.Prelude.{◌≡◌, ◌≤◌, Bool, true, false, ◌||◌, List, [], ◌∷◌, None, ◌==◌, Err, Ok, Some}
use Rattle.std.specs.List.{AllZip}
use Rattle.model.specs.declared.EventKind.TheVariants.{StreamEnd}
use Rattle.model.specs.Events.{Ev, kind_number}
use Rattle.model.specs.Reading.{events_of}
use Rattle.model.specs.Graph.{Book, Alike}
use Rattle.yaml.specs.Flow.{Flow}
use Rattle.document.specs.Empty.{empty_node}
use Rattle.document.specs.Check.{Handed, handed, Fit}
use Rattle.document.specs.Books.{book_on}
use Rattle.composer.specs.declared.refusal.Refusal.TheVariants.{NoEvent}
use Rattle.composer.specs.State.{St, Lengths}
use Rattle.loader.specs.declared.answer.Loaded.{Loaded}
use Rattle.loader.specs.declared.answer.Phase.{Phase}
use Rattle.loader.specs.declared.answer.Phase.TheVariants.{Fresh}
use Rattle.loader.specs.Loading.{Answer, Outcome, loading, filled}

-- each table has all that its limit allows
pub record FullSized (l : Lengths) : Type 0 where
  pub nodes : 4096 ≤ l.nodes
  pub links : 16384 ≤ l.links
  pub text : 65536 ≤ l.text
  pub anchors : 4096 ≤ l.anchors
  pub waiting : 16384 ≤ l.waiting

-- the tables after a load, as they are handed to a Document: what it gave, and empty entries
abbrev pub tables_after : Lengths → Loaded → St → Handed
tables_after l c s = handed (filled l.nodes empty_node s.nodes) (filled l.links 0 s.links) (filled l.text 0 s.text) c.nodes

-- the graph of the Document on them
abbrev pub book_loaded : Lengths → Loaded → St → Book
book_loaded l c s = book_on (tables_after l c s) c.start_implicit c.end_implicit

-- a load into tables of these lengths gave a document: the tables pass the check, and the Document on them is alike by paths to this one
pub record Gives (b : Book) (l : Lengths) (o : Outcome) : Type 0 where
  pub counts : Loaded
  pub loaded : o.answer ≡ Ok (Some counts)
  pub stands : Fit (tables_after l counts o.holds)
  pub alike : Alike b (book_loaded l counts o.holds)

-- From where a loader is and what comes of its source, its loads give documents alike to these, one each, in order; the load after them has the last answer.
abbrev pub LoadsBack : Phase → Flow → List Book → Answer → Type 0
LoadsBack phase f [] last = (l : Lengths) → FullSized l → (loading l phase f).answer ≡ last
LoadsBack phase f (b ∷ bs) last =
    (l : Lengths) → FullSized l → Gives b l (loading l phase f) × LoadsBack (loading l phase f).phase (loading l phase f).flow bs last

-- a stream's end is among some events
abbrev pub took_end : List Ev → Bool
took_end [] = false
took_end (e ∷ es) = kind_number e.kind == kind_number StreamEnd || took_end es

-- after the documents: ended where the stream's end was taken, else refusal 22, that no event is there
abbrev pub last_answer : Bool → Answer
last_answer true = Ok None
last_answer false = Err NoEvent

-- A fresh loader, over any source whose events to come are what the sink took, marks free, and then nothing, gives exactly these documents.
abbrev pub ReadsBack : List Ev → List Book → Type 0
ReadsBack taken books = (f : Flow) → events_of f.coming ≡ taken → f.coming.after ≡ None → LoadsBack Fresh f books (last_answer (took_end taken))

-- what was taken reads back in one way only: as many documents, each alike to its fellow
abbrev pub OneReading : Type 0
OneReading = (taken : List Ev) (xs ys : List Book) → ReadsBack taken xs → ReadsBack taken ys → AllZip Alike xs ys
