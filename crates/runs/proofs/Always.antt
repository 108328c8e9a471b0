-- Every call has exactly one answer: it passes its questions or fails first at one, and its events fit or break off.
use Rattle.std.proofs.Common.{◌≡◌, ℕ, ◌+◌, ◌-◌, ◌<◌, ◌≤◌, Bool, ◌||◌, ◌≢◌, ◌⊎◌, List, [], ◌∷◌, ◌++◌, length, sym, refl, ap, subst, inl, inr, arith}
use mathlib.Core.List.Memᴰ
use mathlib.Core.List.{Memᴰ}
use Rattle.std.proofs.lemmas.Bool.{cases_Bool, cases_lt, cases_eq}
use Rattle.yaml.specs.declared.sink.Refusal.TheVariants.{NoSpace}
use Rattle.model.specs.declared.EventKind.TheVariants.{StreamStart, StreamEnd, DocumentStart}
use Rattle.model.specs.Events.{Ev}
use Rattle.model.specs.Graph.{Vertex}
use Rattle.serial.specs.Walk.{Token, first, again, leave}
use Rattle.serial.specs.Numbering.{number_of}
use Rattle.serial.proofs.Blocked.{walk_or_none}
use Rattle.document.specs.Sound.{SoundBook}
use Rattle.runs.specs.Writer.{State, Handed, Call, opening, closing, dumping, deepest, Passes, Fails, Due, due_of, stream_start, events, start_due, end_due, book_dues, Dumps, Wants, total, has_kind, own, sink, Answer, accepted, refused, Called}
use Rattle.runs.specs.Runs.{SoundCall, Answered, OneAnswer}
use Rattle.runs.proofs.Sounds.{sound_graph}
use Rattle.runs.proofs.Same.{called_same}
use Rattle.runs.proofs.Answering.{open_passes, open_fails, close_passes, close_fails_unopened, close_fails_spoilt, dump_fails_spoilt, empty_passes, dump_fails_closed, dump_fails_counts, dump_fails_deep, dump_fails_steps, dump_fails_anchors, dump_passes}

-- the walk's nodes met again have numbers, or one has none
again_numbered : (g : List Vertex) (ts : List Token) → ((v : ℕ) → Memᴰ (again v) ts → number_of g v ≢ 0) ⊎ ((v : ℕ) × Memᴰ (again v) ts × (number_of g v ≡ 0))
again_numbered g [] = inl (λ v m. absurd (Memᴰ.not-nil m))
again_numbered g (first w ∷ ts) = on (again_numbered g ts)
  where
    on : ((v : ℕ) → Memᴰ (again v) ts → number_of g v ≢ 0) ⊎ ((v : ℕ) × Memᴰ (again v) ts × (number_of g v ≡ 0))
        → ((v : ℕ) → Memᴰ (again v) (first w ∷ ts) → number_of g v ≢ 0) ⊎ ((v : ℕ) × Memᴰ (again v) (first w ∷ ts) × (number_of g v ≡ 0))
    on (inl f) = inl (λ v m. elim (Memᴰ.cases_cons m) [ inl e ↦ cc | inr n ↦ f v n ])
    on (inr r) = inr (r.0, Memᴰ.tail r.1, r.2)
again_numbered g (leave w ∷ ts) = on (again_numbered g ts)
  where
    on : ((v : ℕ) → Memᴰ (again v) ts → number_of g v ≢ 0) ⊎ ((v : ℕ) × Memᴰ (again v) ts × (number_of g v ≡ 0))
        → ((v : ℕ) → Memᴰ (again v) (leave w ∷ ts) → number_of g v ≢ 0) ⊎ ((v : ℕ) × Memᴰ (again v) (leave w ∷ ts) × (number_of g v ≡ 0))
    on (inl f) = inl (λ v m. elim (Memᴰ.cases_cons m) [ inl e ↦ cc | inr n ↦ f v n ])
    on (inr r) = inr (r.0, Memᴰ.tail r.1, r.2)
again_numbered g (again w ∷ ts) = on (cases_eq (number_of g w) 0) (again_numbered g ts)
  where
    on : (number_of g w ≡ 0) ⊎ (number_of g w ≡ 0 → ⊥)
        → ((v : ℕ) → Memᴰ (again v) ts → number_of g v ≢ 0) ⊎ ((v : ℕ) × Memᴰ (again v) ts × (number_of g v ≡ 0))
        → ((v : ℕ) → Memᴰ (again v) (again w ∷ ts) → number_of g v ≢ 0) ⊎ ((v : ℕ) × Memᴰ (again v) (again w ∷ ts) × (number_of g v ≡ 0))
    on (inl z) r = inr (w, Memᴰ.head refl, z)
    on (inr n) (inl f) = inl (λ v m. elim (Memᴰ.cases_cons m) [ inl e ↦ (let same : v ≡ w = cc in subst (λ u. number_of g u ≢ 0) (sym same) n) | inr k ↦ f v k ])
    on (inr n) (inr r) = inr (r.0, Memᴰ.tail r.1, r.2)

-- a call passes, with its events, or fails first at some question
Asked : Call → State → Type 0
Asked c s = (Passes c s × ((ds : List Due) × Wants c s ds)) ⊎ ((n : ℕ) × Fails c s n)

ask_walked : (h : Handed) (s : State) → SoundBook h.book → 1 ≤ length h.book.nodes → Asked (dumping h) s
unfolding Asked
ask_walked h s sound some = elim (cases_Bool s.spoilt) [
  | inl y ↦ inr (53, dump_fails_spoilt h s y)
  | inr u ↦ elim (cases_Bool s.closed) [
    | inl y ↦ inr (54, dump_fails_closed h s some u y)
    | inr c ↦ elim (cases_lt h.counts (length h.book.nodes)) [
      | inl few ↦ inr (55, dump_fails_counts h s some u c few)
      | inr enough ↦ elim (walk_or_none h.book.nodes (sound_graph h.book sound some) deepest) [
        | inr none ↦ inr (56, dump_fails_deep h s some u c enough none)
        | inl w ↦ elim (cases_lt h.steps (length w.0)) [
          | inl short ↦ inr (57, dump_fails_steps h s some u c enough w.2 short)
          | inr long ↦ elim (again_numbered h.book.nodes w.0) [
            | inr r ↦ inr (58, dump_fails_anchors h s some u c enough w.2 long r.0 r.1 r.2)
            | inl f ↦ inl (dump_passes h s some u c enough w.2 long f, (start_due s.opened ++ book_dues h.book w.0, Dumps.walked w.2 refl))
          ]
        ]
      ]
    ]
  ]
]

ask_empty : (h : Handed) (s : State) → h.book.nodes ≡ [] → Asked (dumping h) s
unfolding Asked
ask_empty h s e = elim (cases_Bool s.spoilt) [
  | inl y ↦ inr (53, dump_fails_spoilt h s y)
  | inr u ↦ inl (empty_passes h s e u, (start_due s.opened ++ end_due s.closed, Dumps.empty e refl))
]

ask_dump : (h : Handed) (s : State) → SoundBook h.book → (g : List Vertex) → h.book.nodes ≡ g → Asked (dumping h) s
ask_dump h s sound [] e = ask_empty h s e
ask_dump h s sound (x ∷ g) e = ask_walked h s sound (omega (arith, ap length e))

ask : (c : Call) (s : State) → SoundCall c → Asked c s
unfolding Asked
ask opening s sound = elim (cases_Bool s.opened) [ inl y ↦ inr (51, open_fails s y) | inr n ↦ inl (open_passes s n, (due_of 0 stream_start ∷ [], refl)) ]
ask closing s sound = elim (cases_Bool s.opened) [
  | inr n ↦ inr (52, close_fails_unopened s n)
  | inl y ↦ elim (cases_Bool s.spoilt) [ inl z ↦ inr (53, close_fails_spoilt s y z) | inr u ↦ inl (close_passes s y u, (end_due s.closed, refl)) ]
]
ask (dumping h) s sound = ask_dump h s sound h.book.nodes refl

-- events fit, or break off at the first that does not
record Breaks (weight : Ev → ℕ) (room : ℕ) (ds : List Due) : Type 0 where
  done : List Due
  next_one : Due
  left : List Due
  split : ds ≡ done ++ next_one ∷ left
  fitting : total weight done ≤ room
  too_large : room < total weight done + weight next_one.event

fit_or_break : (weight : Ev → ℕ) (ds : List Due) (room : ℕ) → (total weight ds ≤ room) ⊎ Breaks weight room ds
fit_or_break weight [] room = inl (omega arith)
fit_or_break weight (d ∷ ds) room = on (cases_lt room (weight d.event)) (fit_or_break weight ds (room - weight d.event))
  where
    on : (room < weight d.event) ⊎ (weight d.event ≤ room) → (total weight ds ≤ room - weight d.event) ⊎ Breaks weight (room - weight d.event) ds
        → (total weight (d ∷ ds) ≤ room) ⊎ Breaks weight room (d ∷ ds)
    on (inl small) r = inr (record { done = []; next_one = d; left = ds; split = refl; fitting = omega arith; too_large = omega arith })
    on (inr fits) (inl all) = inl (omega arith)
    on (inr fits) (inr b) = inr (record {
      done = d ∷ b.done;
      next_one = b.next_one;
      left = b.left;
      split = ap (λ xs. d ∷ xs) b.split;
      fitting = omega (arith, b.fitting);
      too_large = omega (arith, b.too_large);
    })

abbrev then : (Ev → ℕ) → State → List Due → Bool → State
then weight s done spoilt = record {
  opened = s.opened || has_kind StreamStart done;
  closed = s.closed || has_kind StreamEnd done;
  spoilt = spoilt;
  taken = s.taken ++ events done;
  room = s.room - total weight done;
}

answered : (weight : Ev → ℕ) (c : Call) (s : State) (a : Answer) (t : State) → Called weight c s a t → Answered weight c s
answered weight c s a t k = record { answer = a; after = t; called = k; only = λ b u j. called_same weight c s b a u t j k }

pub one_answer : OneAnswer
unfolding Asked
one_answer weight c s sound = on (ask c s sound)
  where
    handed : Passes c s → (ds : List Due) → Wants c s ds → (total weight ds ≤ s.room) ⊎ Breaks weight s.room ds → Answered weight c s
    handed p ds w (inl fits) = answered weight c s (accepted (length ds)) (then weight s ds s.spoilt)
        (record { dues = ds; passed = p; wanted = w; counted = refl; took = record { taken = refl; room = omega arith; opened = refl; closed = refl }; spoilt = refl })
    handed p ds w (inr b) = answered weight c s
        (refused (length b.done) (sink b.next_one.node (NoSpace (weight b.next_one.event) (s.room - total weight b.done))))
        (then weight s b.done (s.spoilt || has_kind DocumentStart b.done))
        (record {
          done = b.done;
          next_one = b.next_one;
          left = b.left;
          passed = p;
          wanted = subst (Wants c s) b.split w;
          counted = refl;
          took = record { taken = refl; room = omega (arith, b.fitting); opened = refl; closed = refl };
          spoilt = refl;
          node_told = refl;
          size_told = refl;
          space_told = refl;
          too_large = omega (arith, b.fitting, b.too_large);
        })

    on : (Passes c s × ((ds : List Due) × Wants c s ds)) ⊎ ((n : ℕ) × Fails c s n) → Answered weight c s
    on (inl r) = handed r.0 r.1.0 r.1.1 (fit_or_break weight r.1.0 s.room)
    on (inr r) = answered weight c s (refused 0 (own r.0)) s (record { failed = r.1; none_taken = refl; same = refl })
