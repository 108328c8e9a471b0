-- What a packed writer means.
use Rattle.std.specs.Prelude.{◌≡◌, ℕ, ◌+◌, ◌-◌, ◌≤◌, true, List, [], ◌∷◌, ◌++◌, length, take, drop}
use Rattle.std.proofs.Common.{arith}
use Rattle.model.specs.Events.{Ev, allowed}
use Rattle.model.specs.Reading.{read_all, events_of, write_all, fault_number}
use Rattle.yaml.specs.Puts.{puts}
use Rattle.yaml.specs.View.{View, Weighs}
use Rattle.packed.specs.declared.writer.PackedWriter.{PackedWriter}
use Rattle.packed.specs.Packed.{packed_of, packed_front, size_of}
use Rattle.packed.specs.Lawful.{size_bound}

-- the bytes that hold events
abbrev pub held : PackedWriter → List ℕ
held w = take w.used w.out.now

abbrev pub view_of : PackedWriter → View
view_of w = record { taken = events_of (read_all packed_front (held w)); room = length w.out.now - w.used }

pub weighs : Weighs size_of
weighs e a = let b = size_bound e a in (omega arith, omega arith)

-- an allowed event takes 9 to 4,425 bytes
abbrev pub Sizes : Type 0
Sizes = (e : Ev) → allowed e ≡ true → (9 ≤ size_of e) × (size_of e ≤ 4425)

-- bytes were put into the slice at a place, up to another, and nothing else altered
pub record Put (before : PackedWriter) (at : ℕ) (bytes : List ℕ) (end : ℕ) (after : PackedWriter) : Type 0 where
  pub slice : after.out.now ≡ puts before.out.now at bytes
  pub place : end ≡ at + length bytes
  pub front : take end after.out.now ≡ take at before.out.now ++ bytes
  pub used : after.used ≡ before.used
  pub length_same : length after.out.now ≡ length before.out.now
  pub same : after.out.ghost_name ≡ before.out.ghost_name

-- an event's bytes were stored behind those that are held, up to a place, and nothing else altered: it is read behind them, and then nothing
pub record Stored (before : PackedWriter) (e : Ev) (end : ℕ) (after : PackedWriter) : Type 0 where
  pub place : end ≡ before.used + size_of e
  pub bytes : take end after.out.now ≡ held before ++ packed_of e
  pub past : drop end after.out.now ≡ drop end before.out.now
  pub appended : events_of (read_all packed_front (take end after.out.now)) ≡ (view_of before).taken ++ e ∷ []
  pub whole : fault_number (read_all packed_front (take end after.out.now)).after ≡ 0
  pub used : after.used ≡ before.used
  pub length_same : length after.out.now ≡ length before.out.now
  pub same : after.out.ghost_name ≡ before.out.ghost_name

-- the bytes that a writer leaves hold exactly the events taken: they are what is written for them, and a reader finds them and then nothing
pub record Finished (w : PackedWriter) (bytes : List ℕ) : Type 0 where
  pub written : bytes ≡ write_all packed_of (view_of w).taken
  pub reads_back : events_of (read_all packed_front bytes) ≡ (view_of w).taken
  pub nothing_after : fault_number (read_all packed_front bytes).after ≡ 0
