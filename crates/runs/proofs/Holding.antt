-- After every run the sink holds the accepted documents whole, in order, and at most the beginning of one more.
use Rattle.std.proofs.Common.{◌≡◌, ℕ, Bool, true, false, ◌||◌, ◌⊎◌, List, [], ◌∷◌, ◌++◌, map, sym, refl, ap, ◌∙◌, subst, ap₂, inl, inr}
use Rattle.std.proofs.lemmas.List.{append_assoc, append-nil, map-append}
use Rattle.std.proofs.lemmas.Bool.{both_ways}
use Rattle.yaml.specs.declared.sink.Refusal.TheVariants.{NotAllowed, NoSpace}
use Rattle.model.specs.declared.EventKind.TheVariants.{DocumentStart}
use Rattle.model.specs.Events.{Ev}
use Rattle.model.specs.Graph.{Vertex, Book}
use Rattle.serial.specs.Walk.{Token, Walk}
use Rattle.document.specs.Sound.{SoundBook}
use Rattle.runs.specs.Writer.{State, Handed, Call, opening, closing, dumping, Due, due_of, stream_start, stream_end, start_due, end_due, deepest, NumberedAgain, AllYes, dump_questions, Passes, Dumps, has_kind, Took, Why, own, sink, Answer, accepted, refused, Accepted, CutOff, Called}
use Rattle.runs.specs.Writer.Dumps.{empty as no_nodes, walked}
use Rattle.runs.specs.Runs.{Turn, Fresh, SoundCall, Run, book_in, book_by, written}
use Rattle.runs.specs.Runs.Run.{none, more}
use Rattle.runs.specs.Holds.{Piece, book_of, Unopened, Standing, Ended, Broken, Holds, unopened, standing, ended, broken, RunsHold}
use Rattle.runs.proofs.Wanted.{no_walk_empty}
use Rattle.runs.proofs.Moves.{none_taken, parted, cut_cases, no_cut, dues_of, start_taken, book_taken, end_taken, book_broken}

-- what takes more documents: nothing was taken yet, or the stream is open
data Ready (s : State) (ps : List Piece) : Type 0 where
  fresh : ps ≡ [] → Unopened s → Ready s ps
  going : Standing s ps → Ready s ps

ready_holds : {s : State} {ps : List Piece} → Ready s ps → Holds s (map book_of ps)
ready_holds (fresh e u) = unopened (ap (map book_of) e) u
ready_holds {ps = ps} (going h) = standing ps refl h

same_holds : {s t : State} {books : List Book} → t ≡ s → Holds s books → Holds t books
same_holds {books = books} e h = subst (λ x. Holds x books) (sym e) h

-- once a due start is taken, the stream is open
record Onward (weight : Ev → ℕ) (ps : List Piece) (rest : List Due) (t : State) : Type 0 where
  mid : State
  stands : Standing mid ps
  took : Took weight mid rest t
  spoilt : t.spoilt ≡ mid.spoilt

opened_first : (weight : Ev → ℕ) (s t : State) (ps : List Piece) (rest : List Due) → Ready s ps → Took weight s (start_due s.opened ++ rest) t → t.spoilt ≡ s.spoilt → Onward weight ps rest t
opened_first weight s t ps rest (fresh e u) k spoilt =
    let took : Took weight s (due_of 0 stream_start ∷ rest) t = subst (λ b. Took weight s (start_due b ++ rest) t) u.opened k in
    let r = parted weight s (due_of 0 stream_start) rest t took in
    record {
      mid = r.mid;
      stands = subst (Standing r.mid) (sym e) (start_taken weight s r.mid u r.front r.spoilt);
      took = r.rest;
      spoilt = spoilt ∙ sym r.spoilt;
    }
opened_first weight s t ps rest (going h) k spoilt =
    record { mid = s; stands = h; took = subst (λ b. Took weight s (start_due b ++ rest) t) h.opened k; spoilt = spoilt }

-- the same where the events break off
record OnwardCut (weight : Ev → ℕ) (ps : List Piece) (next_one : Due) (left rest : List Due) (t : State) : Type 0 where
  mid : State
  stands : Standing mid ps
  done : List Due
  split : done ++ next_one ∷ left ≡ rest
  took : Took weight mid done t
  spoilt : t.spoilt ≡ (mid.spoilt || has_kind DocumentStart done)

or_false : (x y b : Bool) → y ≡ (x || b) → b ≡ false → y ≡ x
or_false true y b e f = e
or_false false y b e f = e ∙ f

cut_first : (weight : Ev → ℕ) (s t : State) (ps : List Piece) (done : List Due) (next_one : Due) (left rest : List Due)
    → Ready s ps → done ++ next_one ∷ left ≡ start_due s.opened ++ rest → Took weight s done t → t.spoilt ≡ (s.spoilt || has_kind DocumentStart done)
    → (t ≡ s) ⊎ OnwardCut weight ps next_one left rest t
cut_first weight s t ps done next_one left rest (going h) split k spoilt =
    inr (record { mid = s; stands = h; done = done; split = split ∙ ap (λ b. start_due b ++ rest) h.opened; took = k; spoilt = spoilt })
cut_first weight s t ps done next_one left rest (fresh e u) split k spoilt =
    by (cut_cases done next_one left (due_of 0 stream_start) rest (split ∙ ap (λ b. start_due b ++ rest) u.opened))
  where
    by : (done ≡ []) ⊎ ((others : List Due) × (done ≡ due_of 0 stream_start ∷ others) × (others ++ next_one ∷ left ≡ rest)) → (t ≡ s) ⊎ OnwardCut weight ps next_one left rest t
    by (inl f) = inl (none_taken (subst (λ ds. Took weight s ds t) f k) (or_false s.spoilt t.spoilt (has_kind DocumentStart done) spoilt (ap (has_kind DocumentStart) f)))
    by (inr c) =
        let took : Took weight s (due_of 0 stream_start ∷ c.0) t = subst (λ ds. Took weight s ds t) c.1 k in
        let r = parted weight s (due_of 0 stream_start) c.0 t took in
        inr (record {
          mid = r.mid;
          stands = subst (Standing r.mid) (sym e) (start_taken weight s r.mid u r.front r.spoilt);
          done = c.0;
          split = c.2;
          took = r.rest;
          spoilt = spoilt ∙ ap₂ (λ x y. x || y) (sym r.spoilt) (ap (has_kind DocumentStart) c.1);
        })

-- a stream that can be closed: it is open, or it ended already
data Closable (s : State) (ps : List Piece) : Type 0 where
  to_end : Standing s ps → Closable s ps
  at_end : Ended s ps → Closable s ps

closable_holds : {s : State} {ps : List Piece} → Closable s ps → Holds s (map book_of ps)
closable_holds {ps = ps} (to_end h) = standing ps refl h
closable_holds {ps = ps} (at_end h) = ended ps refl h

closed_all : (weight : Ev → ℕ) (s t : State) (ps : List Piece) → Closable s ps → Took weight s (end_due s.closed) t → t.spoilt ≡ s.spoilt → Ended t ps
closed_all weight s t ps (to_end h) k spoilt = end_taken weight s t ps h (subst (λ b. Took weight s (end_due b) t) h.closed k) spoilt
closed_all weight s t ps (at_end h) k spoilt =
    subst (λ x. Ended x ps) (sym (none_taken (subst (λ b. Took weight s (end_due b) t) h.closed k) spoilt)) h

closed_cut : (weight : Ev → ℕ) (s t : State) (ps : List Piece) (done : List Due) (next_one : Due) (left : List Due)
    → Closable s ps → done ++ next_one ∷ left ≡ end_due s.closed → Took weight s done t → t.spoilt ≡ (s.spoilt || has_kind DocumentStart done) → t ≡ s
closed_cut weight s t ps done next_one left (at_end h) split k spoilt = absurd (no_cut done next_one left (split ∙ ap end_due h.closed))
closed_cut weight s t ps done next_one left (to_end h) split k spoilt =
    by (cut_cases done next_one left (due_of 0 stream_end) [] (split ∙ ap end_due h.closed))
  where
    by : (done ≡ []) ⊎ ((others : List Due) × (done ≡ due_of 0 stream_end ∷ others) × (others ++ next_one ∷ left ≡ [])) → t ≡ s
    by (inl f) = none_taken (subst (λ ds. Took weight s ds t) f k) (or_false s.spoilt t.spoilt (has_kind DocumentStart done) spoilt (ap (has_kind DocumentStart) f))
    by (inr c) = absurd (no_cut c.0 next_one left c.2)

-- where a writer can be: by its flags
clash : {P : Type 0} (b : Bool) → b ≡ true → b ≡ false → P
clash b p q = absurd (both_ways b q p)

record With (P : List Piece → Type 0) (books : List Book) : Type 0 where
  ps : List Piece
  are : books ≡ map book_of ps
  so : P ps

unspoilt_unclosed : {s : State} {books : List Book} → Holds s books → s.spoilt ≡ false → s.closed ≡ false → With (Ready s) books
unspoilt_unclosed (unopened e u) p q = record { ps = []; are = e; so = fresh refl u }
unspoilt_unclosed (standing ps e h) p q = record { ps = ps; are = e; so = going h }
unspoilt_unclosed {s} (ended ps e h) p q = clash s.closed h.closed q
unspoilt_unclosed {s} (broken ps r e h) p q = clash s.spoilt h.spoilt p

unspoilt_opened : {s : State} {books : List Book} → Holds s books → s.spoilt ≡ false → s.opened ≡ true → With (Closable s) books
unspoilt_opened {s} (unopened e u) p q = clash s.opened q u.opened
unspoilt_opened (standing ps e h) p q = record { ps = ps; are = e; so = to_end h }
unspoilt_opened (ended ps e h) p q = record { ps = ps; are = e; so = at_end h }
unspoilt_opened {s} (broken ps r e h) p q = clash s.spoilt h.spoilt p

never_opened : {s : State} {books : List Book} → Holds s books → s.opened ≡ false → With (λ ps. (ps ≡ []) × Unopened s) books
never_opened (unopened e u) p = record { ps = []; are = e; so = (refl, u) }
never_opened {s} (standing ps e h) p = clash s.opened h.opened p
never_opened {s} (ended ps e h) p = clash s.opened h.opened p
never_opened {s} (broken ps r e h) p = clash s.opened h.opened p

-- what the questions of a dump say, where all are answered yes
asked_unspoilt : (s : State) (h : Handed) (g : List Vertex) → AllYes s (dump_questions h g) → s.spoilt ≡ false
asked_unspoilt s h [] a = a.0
asked_unspoilt s h (x ∷ g) a = a.0

asked_walked : (s : State) (h : Handed) (g : List Vertex) → (g ≡ [] → ⊥) → AllYes s (dump_questions h g)
    → (s.closed ≡ false) × ((ts : List Token) (seen : List ℕ) → Walk h.book.nodes deepest ts seen → NumberedAgain h.book ts)
asked_walked s h [] some a = absurd (some refl)
asked_walked s h (x ∷ g) some a = (a.1.0, a.1.1.1.1.1.0)

no_book : (b : Book) (g : List Vertex) → g ≡ [] → book_in b g ≡ []
no_book b [] e = refl
no_book b (x ∷ g) e = cc

some_book : (b : Book) (g : List Vertex) → (g ≡ [] → ⊥) → book_in b g ≡ b ∷ []
some_book b [] some = absurd (some refl)
some_book b (x ∷ g) some = refl

no_more : {t : State} {books : List Book} → Holds t books → Holds t (books ++ [])
no_more {t} {books} h = subst (Holds t) (sym (append-nil books)) h

-- the events of a document without nodes
empty_all : {s : State} {books : List Book} (weight : Ev → ℕ) (t : State) → Holds s books → s.spoilt ≡ false
    → Took weight s (start_due s.opened ++ end_due s.closed) t → t.spoilt ≡ s.spoilt → Holds t books
empty_all {s} weight t (unopened e u) q k spoilt =
    let r = opened_first weight s t [] (end_due s.closed) (fresh refl u) k spoilt in
    ended [] e (end_taken weight r.mid t [] r.stands (subst (λ b. Took weight r.mid (end_due b) t) u.closed r.took) r.spoilt)
empty_all {s} weight t (standing ps e h) q k spoilt =
    ended ps e (closed_all weight s t ps (to_end h) (subst (λ b. Took weight s (start_due b ++ end_due s.closed) t) h.opened k) spoilt)
empty_all {s} weight t (ended ps e h) q k spoilt =
    ended ps e (closed_all weight s t ps (at_end h) (subst (λ b. Took weight s (start_due b ++ end_due s.closed) t) h.opened k) spoilt)
empty_all {s} weight t (broken ps p e h) q k spoilt = clash s.spoilt h.spoilt q

empty_cut : {s : State} {books : List Book} (weight : Ev → ℕ) (t : State) (done : List Due) (next_one : Due) (left : List Due) → Holds s books → s.spoilt ≡ false
    → done ++ next_one ∷ left ≡ start_due s.opened ++ end_due s.closed → Took weight s done t → t.spoilt ≡ (s.spoilt || has_kind DocumentStart done) → Holds t books
empty_cut {s} {books} weight t done next_one left (unopened e u) q split k spoilt = by (cut_first weight s t [] done next_one left (end_due s.closed) (fresh refl u) split k spoilt)
  where
    by : (t ≡ s) ⊎ OnwardCut weight [] next_one left (end_due s.closed) t → Holds t books
    by (inl f) = same_holds f (unopened e u)
    by (inr r) = standing [] e (subst (λ x. Standing x []) (sym (closed_cut weight r.mid t [] r.done next_one left (to_end r.stands)
        (r.split ∙ ap end_due (u.closed ∙ sym r.stands.closed)) r.took r.spoilt)) r.stands)
empty_cut {s} weight t done next_one left (standing ps e h) q split k spoilt =
    same_holds (closed_cut weight s t ps done next_one left (to_end h) (split ∙ ap (λ b. start_due b ++ end_due s.closed) h.opened) k spoilt) (standing ps e h)
empty_cut {s} weight t done next_one left (ended ps e h) q split k spoilt =
    same_holds (closed_cut weight s t ps done next_one left (at_end h) (split ∙ ap (λ b. start_due b ++ end_due s.closed) h.opened) k spoilt) (ended ps e h)
empty_cut {s} weight t done next_one left (broken ps p e h) q split k spoilt = clash s.spoilt h.spoilt q

-- the events of a document with nodes
books_push : {books : List Book} (ps : List Piece) (p : Piece) → books ≡ map book_of ps → books ++ p.book ∷ [] ≡ map book_of (ps ++ p ∷ [])
books_push ps p e = ap (λ bs. bs ++ p.book ∷ []) e ∙ sym (map-append book_of ps (p ∷ []))

book_all : {s : State} {books : List Book} (weight : Ev → ℕ) (t : State) (p : Piece) → Holds s books → s.spoilt ≡ false → s.closed ≡ false
    → Took weight s (start_due s.opened ++ dues_of p) t → t.spoilt ≡ s.spoilt → Holds t (books ++ p.book ∷ [])
book_all {s} {books} weight t p h q c k spoilt =
    let w = unspoilt_unclosed h q c in
    let r = opened_first weight s t w.ps (dues_of p) w.so k spoilt in
    standing (w.ps ++ p ∷ []) (books_push w.ps p w.are) (book_taken weight r.mid t w.ps p r.stands r.took r.spoilt)

book_cut : {s : State} {books : List Book} (weight : Ev → ℕ) (t : State) (p : Piece) (done : List Due) (next_one : Due) (left : List Due)
    → Holds s books → s.spoilt ≡ false → s.closed ≡ false
    → done ++ next_one ∷ left ≡ start_due s.opened ++ dues_of p → Took weight s done t → t.spoilt ≡ (s.spoilt || has_kind DocumentStart done) → Holds t books
book_cut {s} {books} weight t p done next_one left h q c split k spoilt = by (cut_first weight s t w.ps done next_one left (dues_of p) w.so split k spoilt)
  where
    w : With (Ready s) books
    w = unspoilt_unclosed h q c

    then : {m : State} → Standing m w.ps → (t ≡ m) ⊎ Broken t w.ps p → Holds t books
    then stands (inl f) = same_holds f (standing w.ps w.are stands)
    then stands (inr b) = broken w.ps p w.are b

    by : (t ≡ s) ⊎ OnwardCut weight w.ps next_one left (dues_of p) t → Holds t books
    by (inl f) = same_holds f h
    by (inr r) = then r.stands (book_broken weight r.mid t w.ps p r.done next_one left r.stands r.split r.took r.spoilt)

piece : (h : Handed) {ts : List Token} {seen : List ℕ} → SoundBook h.book → Walk h.book.nodes deepest ts seen → NumberedAgain h.book ts → Piece
piece h {ts} {seen} sound w n = record { book = h.book; sound = sound; tokens = ts; seen = seen; walk = w; numbered_again = n }

-- one call more
dump_all : {books : List Book} (weight : Ev → ℕ) (h : Handed) (s : State) (t : State) (ds : List Due) → Holds s books → SoundBook h.book → Passes (dumping h) s
    → Dumps h.book s ds → Took weight s ds t → t.spoilt ≡ s.spoilt → Holds t (books ++ book_in h.book h.book.nodes)
unfolding piece
dump_all {books} weight h s t ds holds sound passed (no_nodes e p) k spoilt =
    subst (λ bs. Holds t (books ++ bs)) (sym (no_book h.book h.book.nodes e))
    (no_more (empty_all weight t holds (asked_unspoilt s h h.book.nodes passed) (subst (λ xs. Took weight s xs t) p k) spoilt))
dump_all {books} weight h s t ds holds sound passed (walked {ts = ts} {seen = seen} w p) k spoilt =
    let some : h.book.nodes ≡ [] → ⊥ = λ e. no_walk_empty e w in
    let q = asked_walked s h h.book.nodes some passed in
    subst (λ bs. Holds t (books ++ bs)) (sym (some_book h.book h.book.nodes some))
    (book_all weight t (piece h sound w (q.1 ts seen w)) holds (asked_unspoilt s h h.book.nodes passed) q.0 (subst (λ xs. Took weight s xs t) p k) spoilt)

dump_cut : {books : List Book} (weight : Ev → ℕ) (h : Handed) (s : State) (t : State) (done : List Due) (next_one : Due) (left : List Due) → Holds s books → SoundBook h.book → Passes (dumping h) s
    → (ds : List Due) → done ++ next_one ∷ left ≡ ds → Dumps h.book s ds → Took weight s done t → t.spoilt ≡ (s.spoilt || has_kind DocumentStart done) → Holds t books
unfolding piece
dump_cut weight h s t done next_one left holds sound passed ds f (no_nodes e p) k spoilt =
    empty_cut weight t done next_one left holds (asked_unspoilt s h h.book.nodes passed) (f ∙ p) k spoilt
dump_cut weight h s t done next_one left holds sound passed ds f (walked {ts = ts} {seen = seen} w p) k spoilt =
    let some : h.book.nodes ≡ [] → ⊥ = λ e. no_walk_empty e w in
    let q = asked_walked s h h.book.nodes some passed in
    book_cut weight t (piece h sound w (q.1 ts seen w)) done next_one left holds (asked_unspoilt s h h.book.nodes passed) q.0 (f ∙ p) k spoilt

accepted_holds : {books : List Book} (weight : Ev → ℕ) (c : Call) (s : State) (n : ℕ) (t : State) → Holds s books → SoundCall c → Accepted weight c s n t → Holds t (books ++ book_by c (accepted n))
accepted_holds weight opening s n t holds sound k =
    let w = never_opened holds k.passed.0 in
    no_more (standing [] (w.are ∙ ap (map book_of) w.so.0)
    (start_taken weight s t w.so.1 (subst (λ xs. Took weight s xs t) k.wanted k.took) k.spoilt))
accepted_holds weight closing s n t holds sound k =
    let w = unspoilt_opened holds k.passed.1.0 k.passed.0 in
    no_more (ended w.ps w.are (closed_all weight s t w.ps w.so (subst (λ xs. Took weight s xs t) k.wanted k.took) k.spoilt))
accepted_holds weight (dumping h) s n t holds sound k = dump_all weight h s t k.dues holds sound k.passed k.wanted k.took k.spoilt

no_cut_one : {weight : Ev → ℕ} {s t : State} (k-done : List Due) (next_one : Due) (left : List Due) (x : Due) → k-done ++ next_one ∷ left ≡ x ∷ [] → Took weight s k-done t
    → t.spoilt ≡ (s.spoilt || has_kind DocumentStart k-done) → t ≡ s
no_cut_one {weight} {s} {t} done next_one left x split k spoilt = by (cut_cases done next_one left x [] split)
  where
    by : (done ≡ []) ⊎ ((others : List Due) × (done ≡ x ∷ others) × (others ++ next_one ∷ left ≡ [])) → t ≡ s
    by (inl f) = none_taken (subst (λ ds. Took weight s ds t) f k) (or_false s.spoilt t.spoilt (has_kind DocumentStart done) spoilt (ap (has_kind DocumentStart) f))
    by (inr c) = absurd (no_cut c.0 next_one left c.2)

cut_holds : {books : List Book} (weight : Ev → ℕ) (c : Call) (s : State) (n v size space : ℕ) (t : State) → Holds s books → SoundCall c → CutOff weight c s n v size space t → Holds t books
cut_holds weight opening s n v size space t holds sound k =
    same_holds (no_cut_one k.done k.next_one k.left (due_of 0 stream_start) k.wanted k.took k.spoilt) holds
cut_holds weight closing s n v size space t holds sound k =
    let w = unspoilt_opened holds k.passed.1.0 k.passed.0 in
    same_holds (closed_cut weight s t w.ps k.done k.next_one k.left w.so k.wanted k.took k.spoilt) holds
cut_holds weight (dumping h) s n v size space t holds sound k =
    dump_cut weight h s t k.done k.next_one k.left holds sound k.passed (k.done ++ k.next_one ∷ k.left) refl k.wanted k.took k.spoilt

refused_none : (c : Call) (n : ℕ) (why : Why) → book_by c (refused n why) ≡ []
refused_none opening n why = refl
refused_none closing n why = refl
refused_none (dumping h) n why = refl

refused_holds : {t : State} {books : List Book} (c : Call) (n : ℕ) (why : Why) → Holds t books → Holds t (books ++ book_by c (refused n why))
refused_holds {t} {books} c n why h = subst (λ bs. Holds t (books ++ bs)) (sym (refused_none c n why)) (no_more h)

pub called_holds : {books : List Book} (weight : Ev → ℕ) (c : Call) (s : State) (a : Answer) (t : State) → Holds s books → SoundCall c → Called weight c s a t → Holds t (books ++ book_by c a)
called_holds weight c s (accepted n) t holds sound k = accepted_holds weight c s n t holds sound k
called_holds weight c s (refused n (own q)) t holds sound k = refused_holds c n (own q) (same_holds k.same holds)
called_holds weight c s (refused n (sink v NotAllowed)) t holds sound k = absurd k
called_holds weight c s (refused n (sink v (NoSpace size space))) t holds sound k =
    refused_holds c n (sink v (NoSpace size space)) (cut_holds weight c s n v size space t holds sound k)

written_append : (us vs : List Turn) → written (us ++ vs) ≡ written us ++ written vs
written_append [] vs = refl
written_append (u ∷ us) vs = ap (λ bs. book_by u.call u.answer ++ bs) (written_append us vs) ∙ sym (append_assoc (book_by u.call u.answer) (written us) (written vs))

-- after every run
pub run_holds : {weight : Ev → ℕ} {start : State} {turns : List Turn} {end : State} → Fresh start → Run weight start turns end → Holds end (written turns)
run_holds f (none e g) =
    same_holds g (unopened (ap written e) (record { opened = f.not_opened; closed = f.not_closed; spoilt = f.not_spoilt; taken = f.nothing_taken }))
run_holds {weight} f (more {turns = turns} {s = s} {t = t} c a r sound k e) =
    subst (Holds t) (sym (ap written e ∙ written_append turns _ ∙ ap (λ bs. written turns ++ bs) (append-nil (book_by c a)))) (called_holds weight c s a t (run_holds f r) sound k)

pub runs_hold : RunsHold
runs_hold weight start turns end f r = run_holds f r
