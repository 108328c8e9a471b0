-- What a format of events is, and what reading a list of bytes in it gives. Both formats of this project are such formats.
use Rattle.std.specs.Prelude.{◌≡◌, ℕ, zero, suc, pred, ◌+◌, ◌≤◌, true, List, [], ◌∷◌, ◌++◌, map, length, take, Some, None, Option}
use Rattle.std.specs.List.{flat_map}
use Rattle.model.specs.declared.Cause.{Cause}
use Rattle.model.specs.declared.Fault.{Fault}
use Rattle.model.specs.declared.Mark.{Mark}
use Rattle.model.specs.Events.{Ev, allowed, cause_number}

-- an event with the places where it begins and ends
pub record Marked : Type 0 where
  pub event : Ev
  pub start : Mark
  pub end : Mark

-- what comes of an input: events, and after them nothing or a fault
pub record Coming : Type 0 where
  pub events : List Marked
  pub after : Option Fault

-- what stands at the front of some bytes: nothing (no bytes), an event and the number of its bytes, or a fault
pub data Front : Type 0 where
  nothing : Front
  event : Ev → ℕ → Front
  fault : Cause → Front

abbrev pub mark_at : ℕ → ℕ → Mark
mark_at place count = record { index = place; line = count; column = 0 }

-- the n bytes at `place`, after `count` events, are the event e
abbrev pub marked_at : ℕ → ℕ → ℕ → Ev → Marked
marked_at place count n e = record { event = e; start = mark_at place count; end = mark_at (place + n) count }

abbrev pub ended : Coming
ended = record { events = []; after = None }

abbrev pub faulty : Cause → ℕ → Coming
faulty c place = record { events = []; after = Some (record { cause = c; place = place }) }

abbrev pub before : Marked → Coming → Coming
before m c = record { events = m ∷ c.events; after = c.after }

-- what comes by a front; `rest n` is what comes after an event of n bytes
abbrev pub by_front : Front → ℕ → ℕ → (ℕ → Coming) → Coming
by_front nothing place count rest = ended
by_front (event e n) place count rest = before (marked_at place count n e) (rest n)
by_front (fault c) place count rest = faulty c place

-- what comes of the bytes that are left when `skip` more of them belong to an event already told:
-- `place` bytes and `count` events stand before them
unfoldable pub reading : (List ℕ → Front) → ℕ → ℕ → ℕ → List ℕ → Coming
reading front skip place count [] = ended
reading front zero place count (b ∷ bs) = by_front (front (b ∷ bs)) place count (λ n. reading front (pred n) (suc place) (suc count) bs)
reading front (suc skip) place count (b ∷ bs) = reading front skip (suc place) count bs

-- what comes of a whole input
abbrev pub read_all : (List ℕ → Front) → List ℕ → Coming
read_all front bs = reading front 0 0 0 bs

abbrev pub bare : Marked → Ev
bare m = m.event

-- the events alone, without their marks
abbrev pub events_of : Coming → List Ev
events_of c = map bare c.events

-- 0, or the number of the fault after the events
abbrev pub fault_number : Option Fault → ℕ
fault_number None = 0
fault_number (Some f) = cause_number f.cause

-- the bytes of some events, one after the other
abbrev pub write_all : (Ev → List ℕ) → List Ev → List ℕ
write_all write es = flat_map write es

-- A format: how an event is written, and what stands at the front of some bytes. What was written is read back whatever follows it;
-- an event that is read is allowed, and its bytes are those that are written for it; only the empty input is nothing.
pub record Format (write : Ev → List ℕ) (front : List ℕ → Front) : Type 0 where
  pub reads_back : (e : Ev) (bs : List ℕ) → allowed e ≡ true → front (write e ++ bs) ≡ event e (length (write e))
  pub only_written : (e : Ev) (n : ℕ) (bs : List ℕ) → front bs ≡ event e n → (allowed e ≡ true) × (n ≡ length (write e)) × (take n bs ≡ write e)
  pub not_empty : (e : Ev) → 1 ≤ length (write e)
  pub nothing_is_empty : front [] ≡ nothing
  pub empty_is_nothing : (bs : List ℕ) → front bs ≡ nothing → bs ≡ []
