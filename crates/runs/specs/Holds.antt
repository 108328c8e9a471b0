-- What a writer's sink holds: nothing; or the stream's start and whole documents; then perhaps the stream's end, or the beginning of one document more.
use Rattle.std.specs.Prelude.{◌≡◌, ℕ, true, false, cond, List, [], ◌∷◌, ◌++◌, map}
use Rattle.std.specs.List.{flat_map}
use Rattle.model.specs.declared.EventKind.TheVariants.{DocumentStart, DocumentEnd}
use Rattle.model.specs.Events.{Ev}
use Rattle.model.specs.Graph.{Book}
use Rattle.serial.specs.Walk.{Token, Walk}
use Rattle.serial.specs.Numbering.{anchor_of}
use Rattle.serial.specs.Serialize.{plain, walk_events, book_events}
use Rattle.document.specs.Sound.{SoundBook}
use Rattle.runs.specs.Writer.{State, deepest, NumberedAgain, stream_start, stream_end}
use Rattle.runs.specs.Runs.{Turn, Fresh, Run, written}

-- a sound document with its walk, whose every node met again has a number
pub record Piece : Type 0 where
  pub book : Book
  pub sound : SoundBook book
  pub tokens : List Token
  pub seen : List ℕ
  pub walk : Walk book.nodes deepest tokens seen
  pub numbered_again : NumberedAgain book tokens

abbrev pub book_of : Piece → Book
book_of p = p.book

abbrev pub events_of : Piece → List Ev
events_of p = book_events p.book p.tokens

-- the start, the nodes' events and the end of a document
abbrev pub start_of : Piece → Ev
start_of p = plain DocumentStart (cond p.book.start_implicit 1 0)

abbrev pub inner_of : Piece → List Ev
inner_of p = walk_events (anchor_of p.book.nodes) p.book.nodes p.tokens

abbrev pub end_of : Piece → Ev
end_of p = plain DocumentEnd (cond p.book.end_implicit 1 0)

-- nothing was taken
pub record Unopened (s : State) : Type 0 where
  pub opened : s.opened ≡ false
  pub closed : s.closed ≡ false
  pub spoilt : s.spoilt ≡ false
  pub taken : s.taken ≡ []

-- the stream is open after whole documents
pub record Standing (s : State) (ps : List Piece) : Type 0 where
  pub opened : s.opened ≡ true
  pub closed : s.closed ≡ false
  pub spoilt : s.spoilt ≡ false
  pub taken : s.taken ≡ stream_start ∷ flat_map events_of ps

-- the stream ended after whole documents
pub record Ended (s : State) (ps : List Piece) : Type 0 where
  pub opened : s.opened ≡ true
  pub closed : s.closed ≡ true
  pub spoilt : s.spoilt ≡ false
  pub taken : s.taken ≡ stream_start ∷ (flat_map events_of ps ++ stream_end ∷ [])

-- one document more was begun, and its events broke off
pub record Broken (s : State) (ps : List Piece) (p : Piece) : Type 0 where
  pub opened : s.opened ≡ true
  pub closed : s.closed ≡ false
  pub spoilt : s.spoilt ≡ true
  pub came : List Ev
  pub later : List Ev
  pub split : came ++ later ≡ inner_of p
  pub taken : s.taken ≡ stream_start ∷ (flat_map events_of ps ++ start_of p ∷ came)

-- what the sink holds, with the documents that it holds whole
pub data Holds (s : State) (books : List Book) : Type 0 where
  unopened : books ≡ [] → Unopened s → Holds s books
  standing : (ps : List Piece) → books ≡ map book_of ps → Standing s ps → Holds s books
  ended : (ps : List Piece) → books ≡ map book_of ps → Ended s ps → Holds s books
  broken : (ps : List Piece) (p : Piece) → books ≡ map book_of ps → Broken s ps p → Holds s books

-- after every run of a writer just made over an empty sink, the sink holds the documents of the accepted dumps that are not empty
abbrev pub RunsHold : Type 0
RunsHold = (weight : Ev → ℕ) (start : State) (turns : List Turn) (end : State) → Fresh start → Run weight start turns end → Holds end (written turns)
