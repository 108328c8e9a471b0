-- How many events a document has: one for each token of its walk, and two.
use Rattle.std.proofs.Common.{◌≡◌, ℕ, ◌+◌, ◌≤◌, Bool, true, false, cond, List, [], ◌∷◌, length, Some, refl, ap, arith}
use Rattle.std.proofs.lemmas.List.{length-append, length-map}
use Rattle.model.specs.declared.EventKind.TheVariants.{DocumentEnd}
use Rattle.model.specs.Graph.{Vertex, Book, numbered}
use Rattle.serial.specs.Walk.{Token, Spot, spot, among, Step, Steps, Walk}
use Rattle.serial.specs.Walks.{TellsLed}
use Rattle.serial.specs.Numbering.{anchor_of}
use Rattle.serial.specs.Serialize.{plain, token_events}
use Rattle.serial.proofs.Reaches.{met_led, led_met}
use Rattle.serial.proofs.Counts.{walk_length_by_paths}
use Rattle.document.specs.Sound.{SoundBook}
use Rattle.runs.specs.Writer.{State, Call, opening, closing, dumping, Due, due_of, node_of, start_due, walk_dues, token_dues, book_dues, Dumps, empty, walked, Answer, accepted, refused, Called}
use Rattle.runs.specs.Runs.{SoundCall}
use Rattle.runs.specs.Counts.{FullCount, CountOf, CountBy}
use Rattle.runs.proofs.Sounds.{sound_graph}
use Rattle.runs.proofs.Wanted.{no_walk_empty}

NodeAt : List Vertex → ℕ → Type 0
NodeAt g v = (x : Vertex) × (numbered g v ≡ Some x)

-- every open collection, the document aside, is a node
abbrev OpenNodes : List Vertex → List Spot → Type 0
OpenNodes g [] = Unit {0}
OpenNodes g (spot v rest ∷ []) = Unit {0}
OpenNodes g (spot v rest ∷ (s ∷ stack)) = NodeAt g v × OpenNodes g (s ∷ stack)

-- the front's children still to come do not matter
other_rest : (g : List Vertex) (u : ℕ) (xs ys : List ℕ) (stack : List Spot) → OpenNodes g (spot u xs ∷ stack) → OpenNodes g (spot u ys ∷ stack)
other_rest g u xs ys [] o = tt
other_rest g u xs ys (s ∷ stack) o = o

step_one : {g : List Vertex} {s s' : List Spot} {n n' : List ℕ} {t : Token} (anchors : ℕ → List ℕ) → Step g s n t s' n' → OpenNodes g s
    → (length (token_events anchors g t) ≡ 1) × OpenNodes g s'
unfolding NodeAt
step_one {g} anchors (Step.met {u = u} {v = v} {rest = rest} {stack = stack} a) o = (refl, other_rest g u (v ∷ rest) rest stack o)
step_one {g} anchors (Step.leaf {u = u} {v = v} {rest = rest} {stack = stack} a h c) o = (rw h refl, other_rest g u (v ∷ rest) rest stack o)
step_one {g} anchors (Step.into {u = u} {v = v} {rest = rest} {stack = stack} {x = x} a h c) o = (rw h refl, ((x, h), other_rest g u (v ∷ rest) rest stack o))
step_one anchors Step.out o = let e = o.0.1 in (rw e refl, o.1)

steps_one : {g : List Vertex} {d : ℕ} {s s' : List Spot} {n n' : List ℕ} {ts : List Token} (anchors : ℕ → List ℕ) → Steps g d s n s' n' ts → OpenNodes g s
    → length (walk_dues anchors g ts) ≡ length ts
steps_one anchors Steps.none o = refl
steps_one {g} anchors (Steps.more {t = t} {ts = ts} st l rest) o =
    let r = step_one anchors st o in
    omega (arith, length-append (token_dues anchors g t) (walk_dues anchors g ts), length-map (token_events anchors g t) (due_of (node_of t)), r.0, steps_one anchors rest r.1)

pub length_book : (b : Book) {d : ℕ} {ts : List Token} {seen : List ℕ} → Walk b.nodes d ts seen → length (book_dues b ts) ≡ 2 + length ts
length_book b {ts = ts} w = omega (arith, length-append (walk_dues (anchor_of b.nodes) b.nodes ts) (due_of 0 (plain DocumentEnd (cond b.end_implicit 1 0)) ∷ []), steps_one (anchor_of b.nodes) w.steps tt)

pub some_walked : {g : List Vertex} {d : ℕ} {ts : List Token} {seen : List ℕ} → Walk g d ts seen → 1 ≤ length g
some_walked {g} w = by g refl
  where
    by : (h : List Vertex) → g ≡ h → 1 ≤ length h
    by [] e = absurd (no_walk_empty e w)
    by (x ∷ h) e = omega arith

length_start : (opened : Bool) → length (start_due opened) ≡ cond opened 0 1
length_start true = refl
length_start false = refl

full_count : {b : Book} {s : State} {ds : List Due} (n : ℕ) → SoundBook b → 1 ≤ length b.nodes → Dumps b s ds → n ≡ length ds → FullCount b.nodes s.opened n
full_count n sound some (empty e p) c = absurd (omega (arith, ap length e))
full_count {b} {s} n sound some (walked {ts = ts} {seen = seen} w p) c =
    let g = sound_graph b sound some in
    let tells : TellsLed b.nodes (λ v. among v seen) = record { led = λ v a. met_led g w v a; told = λ v l. led_met g w v l } in
    record {
      reached = λ v. among v seen;
      by_paths = tells;
      is = omega (arith, c, ap length p, length-append (start_due s.opened) (book_dues b ts), length_start s.opened, length_book b w, walk_length_by_paths g w (λ v. among v seen) tells);
    }

count_of : (g : List Vertex) (opened : Bool) (n : ℕ) → (1 ≤ length g → FullCount g opened n) → CountOf g opened n
count_of [] opened n f = tt
count_of (x ∷ g) opened n f = f (omega arith)

-- what an accepted dump reports
pub counts_called : (weight : _) (c : Call) (s : State) (a : Answer) (t : State) → SoundCall c → Called weight c s a t → CountBy c s.opened a
counts_called weight opening s a t sound k = tt
counts_called weight closing s a t sound k = tt
counts_called weight (dumping h) s (accepted n) t sound k = count_of h.book.nodes s.opened n (λ some. full_count n sound some k.wanted k.counted)
counts_called weight (dumping h) s (refused n why) t sound k = tt
