-- The questions of a call, and its answer.
use Rattle.std.proofs.Common.{◌≡◌, ℕ, true, false, List, [], ◌∷◌, ◌++◌, map, length, take, drop, Err, Result, sym, refl, ap, ◌∙◌, subst, arith}
use mathlib.Core.List.{Memᴰ}
use Rattle.std.proofs.lemmas.List.{take_at, length-map}
use Rattle.model.specs.Events.{Ev, all_allowed}
use Rattle.serial.specs.Walk.{Token, first, again, leave}
use Rattle.serial.specs.Serialize.{book_events}
use Rattle.document.specs.Sound.{SoundBook}
use Rattle.walk.specs.declared.entry.Counted.{Counted}
use Rattle.walk.specs.declared.entry.Step.{Step}
use Rattle.walk.specs.Going.{step_of}
use Rattle.walk.specs.Plans.{Unnamed, ReadyToWrite}
use Rattle.yaml.specs.declared.sink.Refusal.TheVariants.{NoSpace}
use Rattle.runs.specs.Writer.{State, Handed, Call, dumping, Passes, Fails, Due, start_due, book_dues, walked, Wants, accepted, Called}
use Rattle.runs.proofs.Answering.{dump_fails_anchors, dump_passes, dump_allowed}
use Rattle.dumper.specs.declared.answer.Why.TheVariants.{Sink}
use Rattle.dumper.specs.declared.answer.Refused.{Refused}
use Rattle.dumper.specs.Answers.{answer_of}
use Rattle.dumper.specs.Steps.{tokens_of}
use Rattle.dumper.specs.States.{Went, Broke, Goes, went, broke}

-- a call that passed its questions and counted anew is answered by how far its events went
module _ (weight : Ev → ℕ) (c : Call) {s₁ s t : State} {n m : ℕ} (ds : List Due) (same : s₁ ≡ s) (anew : n ≡ 0) (passed : Passes c s) (wanted : Wants c s ds) where
  pub called_well : {k : ℕ} → k ≡ m → Went weight s₁ n ds t m → Called weight c s (accepted k) t
  called_well e w₁ =
      let w = subst (λ x. Went weight x n ds t m) same w₁ in
      record { dues = ds; passed = passed; wanted = wanted; counted = let k = w.counted in omega arith; took = w.took; spoilt = w.spoilt }

  pub called_short : {r : Result ℕ Refused} {f : Refused} → ((x : Refused) × (r ≡ Err x) × (x ≡ f)) → Goes weight s₁ n ds (Err f) t m → Called weight c s (answer_of r) t
  called_short p (went e w) = cc
  called_short {r} {f} p (broke {node} {size} {space} e b₁) =
      let b = subst (λ x. Broke weight x n ds node size space t m) same b₁ in
      let cut : ◌≡◌ {A = Result ℕ Refused} (Err (record { events = m; why = Sink node (NoSpace size space) })) r = cc in
      subst (λ q. Called weight c s (answer_of q) t) cut
      (record {
        done = b.done;
        next_one = b.next_one;
        left = b.left;
        passed = passed;
        wanted = subst (Wants c s) b.split wanted;
        counted = let k = b.counted in omega arith;
        took = b.took;
        spoilt = b.spoilt;
        node_told = b.node_told;
        size_told = b.size_told;
        space_told = b.space_told;
        too_large = b.too_large;
      })

-- a document with nodes
module _ (s : State) (h : Handed) where
  pub fails_anchors : (v : ℕ) → s.spoilt ≡ false → s.closed ≡ false → Unnamed h.book.nodes h.counts h.steps v → Fails (dumping h) s 58
  fails_anchors v a b f =
      dump_fails_anchors h s f.enough.some a b f.enough.room f.walk.walk f.fits v
      (subst (Memᴰ (again v)) (sym f.first_one.split) (stands f.first_one.before f.first_one.rest)) f.first_one.unnamed
    where
      stands : (xs ys : List Token) → Memᴰ (again v) (xs ++ again v ∷ ys)
      stands [] ys = Memᴰ.head refl
      stands (x ∷ xs) ys = Memᴰ.tail (stands xs ys)

  -- the plan was made
  module _ (steps : List Step) (n : ℕ) (t : List Counted) (held : List Step) (p : ReadyToWrite h.book.nodes h.counts steps n t held) where
    pub passes_planned : s.spoilt ≡ false → s.closed ≡ false → h.steps ≡ length steps → Passes (dumping h) s
    passes_planned a b e = dump_passes h s p.enough.some a b p.enough.room p.walk.walk (let fits = p.fits in omega arith) p.named

    tokens_told : tokens_of (take n held) ≡ p.tokens
    tokens_told =
        let long : length (map step_of p.tokens) ≡ n = length-map p.tokens step_of ∙ sym p.count in
        ap tokens_of (ap (take n) p.steps_hold ∙ take_at (map step_of p.tokens) (drop (length p.tokens) steps) n long) ∙ back p.tokens
      where
        back : (ts : List Token) → tokens_of (map step_of ts) ≡ ts
        back [] = refl
        back (first v ∷ ts) = ap (λ xs. first v ∷ xs) (back ts)
        back (again v ∷ ts) = ap (λ xs. again v ∷ xs) (back ts)
        back (leave v ∷ ts) = ap (λ xs. leave v ∷ xs) (back ts)

    pub wants_planned : Wants (dumping h) s (start_due s.opened ++ book_dues h.book (tokens_of (take n held)))
    wants_planned = walked p.walk.walk (ap (λ ts. start_due s.opened ++ book_dues h.book ts) tokens_told)

    pub planned_allowed : SoundBook h.book → all_allowed (book_events h.book (tokens_of (take n held))) ≡ true
    planned_allowed sound = ap (λ ts. all_allowed (book_events h.book ts)) tokens_told ∙ dump_allowed h.book p.tokens sound p.named
