-- What a line writer means.
use Rattle.std.specs.Prelude.{◌≡◌, ℕ, ◌+◌, ◌-◌, List, [], ◌∷◌, ◌++◌, length, take, slice_set}
use Rattle.std.proofs.Common.{arith, ap}
use Rattle.model.specs.Reading.{read_all, events_of, write_all, fault_number}
use Rattle.yaml.specs.Puts.{puts}
use Rattle.yaml.specs.View.{View, Weighs}
use Rattle.lines.specs.declared.writer.LineWriter.{LineWriter}
use Rattle.lines.specs.Line.{line_of, line_front}
use Rattle.lines.specs.Pens.{weight_of}
use Rattle.lines.specs.Lawful.{short, line_not_empty}

-- the bytes that hold lines
abbrev pub held : LineWriter → List ℕ
held w = take w.used w.out.now

abbrev pub view_of : LineWriter → View
view_of w = record { taken = events_of (read_all line_front (held w)); room = length w.out.now - w.used }

pub weighs : Weighs weight_of
weighs e a = (line_not_empty e, omega (arith, short e a))

-- bytes that are put behind bytes are put with them
pub puts_append : (out : List ℕ) (at end : ℕ) (xs ys : List ℕ) → end ≡ at + length xs → puts (puts out at xs) end ys ≡ puts out at (xs ++ ys)
puts_append out at end [] ys e = ap (λ k. puts out k ys) (omega arith)
puts_append out at end (x ∷ xs) ys e = puts_append (slice_set out at x) (at + 1) end xs ys (omega arith)

-- the bytes that a writer leaves hold exactly the events taken: they are what is written for them, and a reader finds them and then nothing
pub record Finished (w : LineWriter) (bytes : List ℕ) : Type 0 where
  pub written : bytes ≡ write_all line_of (view_of w).taken
  pub reads_back : events_of (read_all line_front bytes) ≡ (view_of w).taken
  pub nothing_after : fault_number (read_all line_front bytes).after ≡ 0
