-- What a writer of documents is asked, what it hands on to its sink, and what it answers.
use Rattle.std.specs.Prelude.{◌≡◌, ℕ, ◌+◌, ◌<◌, ◌≤◌, Bool, true, false, cond, ◌||◌, ◌≢◌, ◌⊎◌, List, [], ◌∷◌, ◌++◌, map, length, ◌==◌}
use mathlib.Core.List.{Memᴰ}
use Rattle.model.specs.declared.EventKind.{EventKind}
use Rattle.model.specs.declared.EventKind.TheVariants.{StreamStart, StreamEnd, DocumentStart, DocumentEnd}
use Rattle.model.specs.Events.{Ev, kind_number}
use Rattle.model.specs.Graph.{Vertex, Book}
use Rattle.yaml.specs.declared.sink.Refusal.{Refusal}
use Rattle.yaml.specs.declared.sink.Refusal.TheVariants.{NotAllowed, NoSpace}
use Rattle.serial.specs.Walk.{Token, first, again, leave, Walk}
use Rattle.serial.specs.Numbering.{number_of, anchor_of}
use Rattle.serial.specs.Serialize.{plain, token_events}

-- a writer: whether it is opened, closed, spoilt, and what its sink took and has room for
pub record State : Type 0 where
  pub opened : Bool
  pub closed : Bool
  pub spoilt : Bool
  pub taken : List Ev
  pub room : ℕ

-- what is handed to a dump: a document, and the lengths of the counting table and of the step table
pub record Handed : Type 0 where
  pub book : Book
  pub counts : ℕ
  pub steps : ℕ

pub data Call : Type 0 where
  opening : Call
  closing : Call
  dumping : Handed → Call

-- The questions that are asked of a call before its sink is.
pub data Question : Type 0 where
  unopened : Question
  opened : Question
  unspoilt : Question
  unclosed : Question
  counted : Handed → Question
  shallow : Handed → Question
  stepped : Handed → Question
  anchored : Handed → Question

abbrev pub question_number : Question → ℕ
question_number unopened = 51
question_number opened = 52
question_number unspoilt = 53
question_number unclosed = 54
question_number (counted h) = 55
question_number (shallow h) = 56
question_number (stepped h) = 57
question_number (anchored h) = 58

-- the most collections that a walk may hold open at once
abbrev pub deepest : ℕ
deepest = 256

-- the document has a walk within that depth
abbrev pub Walked : Book → Type 0
Walked b = (ts : List Token) × (seen : List ℕ) × Walk b.nodes deepest ts seen

-- each node that the walk meets again has a number
abbrev pub NumberedAgain : Book → List Token → Type 0
NumberedAgain b ts = (v : ℕ) → Memᴰ (again v) ts → number_of b.nodes v ≢ 0

-- the answer to a question is yes; a walk has as many steps as tokens (collections and links that paths lead to, and one)
abbrev pub Yes : State → Question → Type 0
Yes s unopened = s.opened ≡ false
Yes s opened = s.opened ≡ true
Yes s unspoilt = s.spoilt ≡ false
Yes s unclosed = s.closed ≡ false
Yes s (counted h) = length h.book.nodes ≤ h.counts
Yes s (shallow h) = Walked h.book
Yes s (stepped h) = (ts : List Token) (seen : List ℕ) → Walk h.book.nodes deepest ts seen → length ts ≤ h.steps
Yes s (anchored h) = (ts : List Token) (seen : List ℕ) → Walk h.book.nodes deepest ts seen → NumberedAgain h.book ts

-- the questions of a call in their order; a document without nodes is asked one only
abbrev pub dump_questions : Handed → List Vertex → List Question
dump_questions h [] = unspoilt ∷ []
dump_questions h (x ∷ g) = unspoilt ∷ (unclosed ∷ (counted h ∷ (shallow h ∷ (stepped h ∷ (anchored h ∷ [])))))

abbrev pub questions : Call → List Question
questions opening = unopened ∷ []
questions closing = opened ∷ (unspoilt ∷ [])
questions (dumping h) = dump_questions h h.book.nodes

abbrev pub AllYes : State → List Question → Type 0
AllYes s [] = Unit {0}
AllYes s (q ∷ qs) = Yes s q × AllYes s qs

-- the first question whose answer is not yes has the number n
abbrev pub FirstNo : State → List Question → ℕ → Type 0
FirstNo s [] n = ⊥
FirstNo s (q ∷ qs) n = ((Yes s q → ⊥) × (n ≡ question_number q)) ⊎ (Yes s q × FirstNo s qs n)

-- a call passes its own questions, or fails first at the one of that number
abbrev pub Passes : Call → State → Type 0
Passes c s = AllYes s (questions c)

abbrev pub Fails : Call → State → ℕ → Type 0
Fails c s n = FirstNo s (questions c) n

-- an event that is due, with the number of its node; 0 for the stream and the document
pub record Due : Type 0 where
  pub node : ℕ
  pub event : Ev

abbrev pub event_of : Due → Ev
event_of d = d.event

abbrev pub events : List Due → List Ev
events ds = map event_of ds

abbrev pub due_of : ℕ → Ev → Due
due_of v e = record { node = v; event = e }

abbrev pub stream_start : Ev
stream_start = plain StreamStart 0

abbrev pub stream_end : Ev
stream_end = plain StreamEnd 0

-- a stream start is due where the writer is not opened, a stream end where it is not closed
abbrev pub start_due : Bool → List Due
start_due true = []
start_due false = due_of 0 stream_start ∷ []

abbrev pub end_due : Bool → List Due
end_due true = []
end_due false = due_of 0 stream_end ∷ []

-- the events of a document, as `book_events` has them, with their nodes
abbrev pub node_of : Token → ℕ
node_of (first v) = v
node_of (again v) = v
node_of (leave v) = v

abbrev pub token_dues : (ℕ → List ℕ) → List Vertex → Token → List Due
token_dues anchors g t = map (due_of (node_of t)) (token_events anchors g t)

abbrev pub walk_dues : (ℕ → List ℕ) → List Vertex → List Token → List Due
walk_dues anchors g [] = []
walk_dues anchors g (t ∷ ts) = token_dues anchors g t ++ walk_dues anchors g ts

abbrev pub book_dues : Book → List Token → List Due
book_dues b ts =
    due_of 0 (plain DocumentStart (cond b.start_implicit 1 0))
    ∷ (walk_dues (anchor_of b.nodes) b.nodes ts ++ due_of 0 (plain DocumentEnd (cond b.end_implicit 1 0)) ∷ [])

-- The events that a dump would hand on: a document without nodes opens and closes, any other is walked.
pub data Dumps (b : Book) (s : State) : List Due → Type 0 where
  empty : {ds : List Due} → b.nodes ≡ [] → ds ≡ start_due s.opened ++ end_due s.closed → Dumps b s ds
  walked : {ds : List Due} {ts : List Token} {seen : List ℕ}
      → Walk b.nodes deepest ts seen → ds ≡ start_due s.opened ++ book_dues b ts → Dumps b s ds

-- the events that a call would hand on if none is refused
abbrev pub Wants : Call → State → List Due → Type 0
Wants opening s ds = ds ≡ due_of 0 stream_start ∷ []
Wants closing s ds = ds ≡ end_due s.closed
Wants (dumping h) s ds = Dumps h.book s ds

-- their sizes, added up
abbrev pub total : (Ev → ℕ) → List Due → ℕ
total weight [] = 0
total weight (d ∷ ds) = weight d.event + total weight ds

-- an event of that kind is among them
abbrev pub has_kind : EventKind → List Due → Bool
has_kind k [] = false
has_kind k (d ∷ ds) = kind_number d.event.kind == kind_number k || has_kind k ds

-- Why a call is refused: by a question of its own, or since the sink did not take an event of a node.
pub data Why : Type 0 where
  own : ℕ → Why
  sink : ℕ → Refusal → Why

abbrev pub why_number : Why → ℕ
why_number (own q) = q
why_number (sink v r) = 59

-- An answer; both kinds report how many events were taken.
pub data Answer : Type 0 where
  accepted : ℕ → Answer
  refused : ℕ → Why → Answer

abbrev pub reported : Answer → ℕ
reported (accepted n) = n
reported (refused n why) = n

abbrev pub is_refused : Answer → Bool
is_refused (accepted n) = false
is_refused (refused n why) = true

-- The sink took just these events, in order: its room fell by their sizes; the writer is opened once its stream start is taken, and closed once its stream end is.
pub record Took (weight : Ev → ℕ) (s : State) (done : List Due) (t : State) : Type 0 where
  pub taken : t.taken ≡ s.taken ++ events done
  pub room : t.room + total weight done ≡ s.room
  pub opened : t.opened ≡ (s.opened || has_kind StreamStart done)
  pub closed : t.closed ≡ (s.closed || has_kind StreamEnd done)

-- the call passed its questions, and the sink took all its events
pub record Accepted (weight : Ev → ℕ) (c : Call) (s : State) (n : ℕ) (t : State) : Type 0 where
  pub dues : List Due
  pub passed : Passes c s
  pub wanted : Wants c s dues
  pub counted : n ≡ length dues
  pub took : Took weight s dues t
  pub spoilt : t.spoilt ≡ s.spoilt

-- a question of its own failed first; no event was taken, and nothing alters
pub record Declined (c : Call) (s : State) (n q : ℕ) (t : State) : Type 0 where
  pub failed : Fails c s q
  pub none_taken : n ≡ 0
  pub same : t ≡ s

-- The call passed its questions, and the sink took the events before the first that did not fit. After a taken document start the writer is spoilt.
pub record CutOff (weight : Ev → ℕ) (c : Call) (s : State) (n v size space : ℕ) (t : State) : Type 0 where
  pub done : List Due
  pub next_one : Due
  pub left : List Due
  pub passed : Passes c s
  pub wanted : Wants c s (done ++ next_one ∷ left)
  pub counted : n ≡ length done
  pub took : Took weight s done t
  pub spoilt : t.spoilt ≡ (s.spoilt || has_kind DocumentStart done)
  pub node_told : v ≡ next_one.node
  pub size_told : size ≡ weight next_one.event
  pub space_told : space ≡ t.room
  pub too_large : t.room < weight next_one.event

-- What a call does, by its answer. All events of a sound document are allowed, so that a sink refuses one only for lack of space.
abbrev CalledBy : (Ev → ℕ) → Call → State → ℕ → Why → State → Type 0
CalledBy weight c s n (own q) t = Declined c s n q t
CalledBy weight c s n (sink v NotAllowed) t = ⊥
CalledBy weight c s n (sink v (NoSpace size space)) t = CutOff weight c s n v size space t

abbrev pub Called : (Ev → ℕ) → Call → State → Answer → State → Type 0
Called weight c s (accepted n) t = Accepted weight c s n t
Called weight c s (refused n why) t = CalledBy weight c s n why t
