-- The examples come out as they say.
use Rattle.std.proofs.Common.{ℕ, ◌≤◌, List, [], ◌∷◌, ◌++◌, length, sym, refl, ap, ap₂, inl, inr, arith}
use mathlib.Core.List.{Memᴰ}
use Rattle.model.specs.Reading.{reading}
use Rattle.lines.specs.Line.{line_of, escape_byte}
use Rattle.serial.specs.Walk.{Token, again, Step, Steps, Walk}
use Rattle.serial.proofs.Determined.{walk_same}
use Rattle.loader.specs.Loading.{running}
use Rattle.runs.specs.Writer.{Dumps, start_due, end_due, NumberedAgain}
use Rattle.worked.specs.Worked.{book, book_tokens, itself, itself_tokens, sharing, sharing_tokens, Worked}

book_walk : Walk book.nodes 256 book_tokens (2 ∷ (1 ∷ []))
book_walk = record { steps = Steps.more (Step.into refl refl refl) (omega arith) (Steps.more (Step.leaf refl refl refl) (omega arith) (Steps.more (Step.met refl) (omega arith) (Steps.more Step.out (omega arith) Steps.none))) }

itself_walk : Walk itself.nodes 256 itself_tokens (1 ∷ [])
itself_walk = record { steps = Steps.more (Step.into refl refl refl) (omega arith) (Steps.more (Step.met refl) (omega arith) (Steps.more Step.out (omega arith) Steps.none)) }

sharing_walk : Walk sharing.nodes 256 sharing_tokens (4 ∷ (3 ∷ (2 ∷ (1 ∷ []))))
sharing_walk = record {
  steps =
      Steps.more (Step.into refl refl refl) (omega arith) (Steps.more (Step.into refl refl refl) (omega arith) (Steps.more (Step.leaf refl refl refl) (omega arith)
      (Steps.more Step.out (omega arith) (Steps.more (Step.into refl refl refl) (omega arith) (Steps.more (Step.met refl) (omega arith)
      (Steps.more Step.out (omega arith) (Steps.more Step.out (omega arith) Steps.none)))))));
}

third_again : Memᴰ (again 3) sharing_tokens
third_again = Memᴰ.tail (Memᴰ.tail (Memᴰ.tail (Memᴰ.tail (Memᴰ.tail (Memᴰ.head refl)))))

few_steps : (ts : List Token) (seen : List ℕ) → Walk sharing.nodes 256 ts seen → length ts ≤ 20481
few_steps ts seen w = let same = ap length (walk_same w sharing_walk).0 in omega arith

no_anchor : ((ts : List Token) (seen : List ℕ) → Walk sharing.nodes 256 ts seen → NumberedAgain sharing ts) → ⊥
no_anchor yes-all = yes-all sharing_tokens (4 ∷ (3 ∷ (2 ∷ (1 ∷ [])))) sharing_walk 3 third_again refl

pub examples : Worked
unfolding reading running line_of escape_byte
examples = record {
  is_book_loaded = (_, refl);
  book_graph = refl;
  book_over = refl;
  book_walk = book_walk;
  are_book_lines = refl;
  itself_walk = itself_walk;
  itself_five = refl;
  sharing_walk = sharing_walk;
  sharing_refused = λ s unspoilt unclosed. inr (unspoilt, inr (unclosed, inr (omega arith, inr ((sharing_tokens, 4 ∷ (3 ∷ (2 ∷ (1 ∷ []))), sharing_walk), inr (few_steps, inl (no_anchor, refl))))));
  seven = refl;
  thousand = refl;
  empty_fresh = λ s o c. Dumps.empty refl (ap₂ (λ a b. start_due a ++ end_due b) (sym o) (sym c));
  empty_closed = λ s o c. Dumps.empty refl (ap₂ (λ a b. start_due a ++ end_due b) (sym o) (sym c));
}
