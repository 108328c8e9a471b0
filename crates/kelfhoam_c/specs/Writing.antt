-- The calls of a writer that bytes stand for, and what they tell.
use Rattle.std.specs.Prelude.{◌≡◌, ℕ, ◌-◌, min, Bool, false, ◌≢◌, List, [], ◌∷◌, ◌++◌, length, take, drop, Result}
use Rattle.model.specs.Events.{Ev}
use Rattle.model.specs.Graph.{Book}
use Rattle.packed.specs.Packed.{size_of}
use Rattle.document.specs.declared.refusal.Refusal.{Refusal as NoDocument}
use Rattle.document.specs.Check.{Handed, handed_of, Fit, Refused}
use Rattle.document.specs.Books.{book_on}
use Rattle.runs.specs.Writer.{State, opening, closing, dumping, Called}
use Rattle.dumper.specs.declared.answer.Refused.{Refused as DumpRefused}
use Rattle.dumper.specs.Answers.{answer_of}
use Rattle.dumper.specs.Calls.{handed}
use Rattle.kelfhoam_c.specs.declared.told.CallTold.{CallTold}
use Rattle.kelfhoam_c.specs.declared.write.Lent.{Lent as LentIn}
use Rattle.kelfhoam_c.specs.Told.{accepted_told, called_told, no_document_told}

-- what the calls are lent: the tables of a document with its flags, and the lengths of the counting table and of the step table
pub record Lent : Type 0 where
  pub tables : Handed
  pub start_implicit : Bool
  pub end_implicit : Bool
  pub counts : ℕ
  pub steps : ℕ

abbrev pub lent : Handed → Bool → Bool → ℕ → ℕ → Lent
lent h s e counts steps = record { tables = h; start_implicit = s; end_implicit = e; counts = counts; steps = steps }

abbrev pub lent_of : LentIn → Lent
lent_of l = lent (handed_of l.handed) l.handed.start_implicit l.handed.end_implicit (length l.counting.now) (length l.steps.now)

-- the document without nodes
abbrev pub book_of_nothing : Book
book_of_nothing = record { nodes = []; start_implicit = false; end_implicit = false }

-- What a byte does to a writer and tells: 111 opens, 99 closes, 101 dumps an empty document, 100 dumps the document on the tables, if one stands on them;
-- any other byte is no call.
pub data Turned (weight : Ev → ℕ) (d : Lent) (c : ℕ) (s : State) (told : CallTold) (t : State) : Type 0 where
  opens : (r : Result ℕ DumpRefused) → c ≡ 111 → told ≡ called_told r → Called weight opening s (answer_of r) t → Turned weight d c s told t
  closes : (r : Result ℕ DumpRefused) → c ≡ 99 → told ≡ called_told r → Called weight closing s (answer_of r) t → Turned weight d c s told t
  dumps_nothing : (r : Result ℕ DumpRefused) → c ≡ 101 → told ≡ called_told r → Called weight (dumping (handed book_of_nothing d.counts d.steps)) s (answer_of r) t → Turned weight d c s told t
  dumps : (r : Result ℕ DumpRefused) → c ≡ 100 → Fit d.tables → told ≡ called_told r
      → Called weight (dumping (handed (book_on d.tables d.start_implicit d.end_implicit) d.counts d.steps)) s (answer_of r) t → Turned weight d c s told t
  no_document : (f : NoDocument) → c ≡ 100 → Refused d.tables f → told ≡ no_document_told f → t ≡ s → Turned weight d c s told t
  no_call : c ≢ 111 → c ≢ 99 → c ≢ 101 → c ≢ 100 → told ≡ accepted_told 0 → t ≡ s → Turned weight d c s told t

-- several bytes, one after the other; the last is added at the end
pub data Chain (weight : Ev → ℕ) (d : Lent) (start : State) : List ℕ → List CallTold → State → Type 0 where
  none : {cs : List ℕ} {ts : List CallTold} {end : State} → cs ≡ [] → ts ≡ [] → end ≡ start → Chain weight d start cs ts end
  more : {cs cs' : List ℕ} {ts ts' : List CallTold} {s t : State} (c : ℕ) (told : CallTold)
      → Chain weight d start cs ts s → Turned weight d c s told t → cs' ≡ cs ++ c ∷ [] → ts' ≡ ts ++ told ∷ [] → Chain weight d start cs' ts' t

-- as many calls as have an entry to tell in
abbrev pub made_of : List ℕ → List CallTold → ℕ
made_of calls told = min (length calls) (length told)

-- the calls were made one after the other, each told in its entry; the entries past them are as they were
pub record MadeCalls (weight : Ev → ℕ) (d : Lent) (calls : List ℕ) (start end : State) (before after : List CallTold) : Type 0 where
  pub chain : Chain weight d start (take (made_of calls before) calls) (take (made_of calls before) after) end
  pub rest : drop (made_of calls before) after ≡ drop (made_of calls before) before

-- a writer just made over a sink with this room, which took nothing
abbrev pub fresh_with : ℕ → State
fresh_with room = record { opened = false; closed = false; spoilt = false; taken = []; room = room }

-- Calls of a writer over an empty packed sink with this room: each is told in its entry, and the number of bytes is by how much the room fell.
pub record Wrote (d : Lent) (calls : List ℕ) (room : ℕ) (before after : List CallTold) (bytes : ℕ) : Type 0 where
  pub end : State
  pub calls_made : MadeCalls size_of d calls (fresh_with room) end before after
  pub bytes_told : bytes ≡ room - end.room
