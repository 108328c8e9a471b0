-- Whole runs of a writer: any calls, one after the other, each from where those before it left the writer and its sink.
use Rattle.std.specs.Prelude.{◌≡◌, ℕ, ◌+◌, false, List, [], ◌∷◌, ◌++◌}
use Rattle.model.specs.Events.{Ev}
use Rattle.model.specs.Graph.{Book, Vertex}
use Rattle.document.specs.Sound.{SoundBook}
use Rattle.runs.specs.Writer.{State, Call, opening, closing, dumping, Answer, accepted, refused, reported, Called}

-- a writer just made, over a sink that took nothing
pub record Fresh (s : State) : Type 0 where
  pub not_opened : s.opened ≡ false
  pub not_closed : s.closed ≡ false
  pub not_spoilt : s.spoilt ≡ false
  pub nothing_taken : s.taken ≡ []

-- a call with its answer, and the writer before and after it
pub record Turn : Type 0 where
  pub before : State
  pub call : Call
  pub answer : Answer
  pub after : State

-- what holds of every Document that is handed
abbrev pub SoundCall : Call → Type 0
SoundCall opening = Unit {0}
SoundCall closing = Unit {0}
SoundCall (dumping h) = SoundBook h.book

-- a call's answer and the writer after it, and no other
pub record Answered (weight : Ev → ℕ) (c : Call) (s : State) : Type 0 where
  pub answer : Answer
  pub after : State
  pub called : Called weight c s answer after
  pub only : (a : Answer) (t : State) → Called weight c s a t → (a ≡ answer) × (t ≡ after)

-- every call has exactly one answer
abbrev pub OneAnswer : Type 0
OneAnswer = (weight : Ev → ℕ) (c : Call) (s : State) → SoundCall c → Answered weight c s

-- the turns of a run, in order; the last is added at the end
pub data Run (weight : Ev → ℕ) (start : State) : List Turn → State → Type 0 where
  none : {turns : List Turn} {end : State} → turns ≡ [] → end ≡ start → Run weight start turns end
  more : {turns turns' : List Turn} {s t : State} (c : Call) (a : Answer)
      → Run weight start turns s → SoundCall c → Called weight c s a t
      → turns' ≡ turns ++ record { before = s; call = c; answer = a; after = t } ∷ [] → Run weight start turns' t

-- the events that the answers of some turns report, added up
abbrev pub reports : List Turn → ℕ
reports [] = 0
reports (u ∷ us) = reported u.answer + reports us

-- the document of an accepted dump that is not empty
abbrev pub book_in : Book → List Vertex → List Book
book_in b [] = []
book_in b (x ∷ g) = b ∷ []

abbrev pub book_by : Call → Answer → List Book
book_by opening a = []
book_by closing a = []
book_by (dumping h) (accepted n) = book_in h.book h.book.nodes
book_by (dumping h) (refused n why) = []

-- the documents of the accepted dumps that are not empty, in order
abbrev pub written : List Turn → List Book
written [] = []
written (u ∷ us) = book_by u.call u.answer ++ written us
