-- The questions of a call, answered: what a writer shows to say that a call passes, or at which question it fails first.
use Rattle.std.proofs.Common.{◌≡◌, ℕ, ◌<◌, ◌≤◌, Bool, true, false, List, [], ◌∷◌, ◌++◌, length, sym, refl, ap, ◌∙◌, subst, inl, inr, arith}
use mathlib.Core.List.{Memᴰ}
use Rattle.std.proofs.lemmas.List.{append_assoc}
use Rattle.std.proofs.lemmas.Bool.{both_ways}
use Rattle.model.specs.Events.{all_allowed}
use Rattle.model.specs.Graph.{Vertex, Book}
use Rattle.serial.specs.Walk.{Token, again, Walk}
use Rattle.serial.specs.Numbering.{number_of}
use Rattle.serial.specs.Serialize.{book_events}
use Rattle.serial.proofs.Determined.{walk_same}
use Rattle.serial.proofs.Allowed.{book_allowed}
use Rattle.document.specs.Sound.{SoundBook}
use Rattle.runs.specs.Writer.{State, Handed, opening, closing, dumping, deepest, NumberedAgain, AllYes, FirstNo, dump_questions, Passes, Fails, token_dues, walk_dues}
use Rattle.runs.proofs.Sounds.{looks_within}
use Rattle.runs.proofs.Pieces.{anchor_given}

no : {P : Type 0} (b : Bool) → b ≡ true → b ≡ false → P
no b t f = absurd (both_ways b f t)

-- open
pub open_passes : (s : State) → s.opened ≡ false → Passes opening s
open_passes s h = (h, tt)

pub open_fails : (s : State) → s.opened ≡ true → Fails opening s 51
open_fails s h = inl ((λ y. no s.opened h y), refl)

-- close
pub close_passes : (s : State) → s.opened ≡ true → s.spoilt ≡ false → Passes closing s
close_passes s h k = (h, (k, tt))

pub close_fails_unopened : (s : State) → s.opened ≡ false → Fails closing s 52
close_fails_unopened s h = inl ((λ y. no s.opened y h), refl)

pub close_fails_spoilt : (s : State) → s.opened ≡ true → s.spoilt ≡ true → Fails closing s 53
close_fails_spoilt s h k = inr (h, inl ((λ y. no s.spoilt k y), refl))

-- dump
pub dump_fails_spoilt : (h : Handed) (s : State) → s.spoilt ≡ true → Fails (dumping h) s 53
dump_fails_spoilt h s k = by h.book.nodes
  where
    by : (g : List Vertex) → FirstNo s (dump_questions h g) 53
    by [] = inl ((λ y. no s.spoilt k y), refl)
    by (x ∷ g) = inl ((λ y. no s.spoilt k y), refl)

pub empty_passes : (h : Handed) (s : State) → h.book.nodes ≡ [] → s.spoilt ≡ false → Passes (dumping h) s
empty_passes h s e k = subst (λ g. AllYes s (dump_questions h g)) (sym e) (k, tt)

-- a document with nodes
module _ (h : Handed) (s : State) (some : 1 ≤ length h.book.nodes) (unspoilt : s.spoilt ≡ false) where
  pub dump_fails_closed : s.closed ≡ true → Fails (dumping h) s 54
  dump_fails_closed c = by h.book.nodes some
    where
      by : (g : List Vertex) → 1 ≤ length g → FirstNo s (dump_questions h g) 54
      by [] l = absurd (omega arith)
      by (x ∷ g) l = inr (unspoilt, inl ((λ y. no s.closed c y), refl))

  pub dump_fails_counts : s.closed ≡ false → h.counts < length h.book.nodes → Fails (dumping h) s 55
  dump_fails_counts c few = by h.book.nodes some
    where
      by : (g : List Vertex) → 1 ≤ length g → FirstNo s (dump_questions h g) 55
      by [] l = absurd (omega arith)
      by (x ∷ g) l = inr (unspoilt, inr (c, inl ((λ y. omega (arith, y)), refl)))

  pub dump_fails_deep : s.closed ≡ false → length h.book.nodes ≤ h.counts
      → ((ts : List Token) (seen : List ℕ) → Walk h.book.nodes deepest ts seen → ⊥) → Fails (dumping h) s 56
  dump_fails_deep c enough none = by h.book.nodes some
    where
      by : (g : List Vertex) → 1 ≤ length g → FirstNo s (dump_questions h g) 56
      by [] l = absurd (omega arith)
      by (x ∷ g) l = inr (unspoilt, inr (c, inr (enough, inl ((λ y. none y.0 y.1 y.2), refl))))

  pub dump_fails_steps : {ts : List Token} {seen : List ℕ} → s.closed ≡ false → length h.book.nodes ≤ h.counts
      → Walk h.book.nodes deepest ts seen → h.steps < length ts → Fails (dumping h) s 57
  dump_fails_steps {ts} {seen} c enough w few = by h.book.nodes some
    where
      by : (g : List Vertex) → 1 ≤ length g → FirstNo s (dump_questions h g) 57
      by [] l = absurd (omega arith)
      by (x ∷ g) l = inr (unspoilt, inr (c, inr (enough, inr ((ts, seen, w), inl ((λ y. omega (arith, y ts seen w)), refl)))))

  long_enough : {ts : List Token} {seen : List ℕ} → Walk h.book.nodes deepest ts seen → length ts ≤ h.steps
      → (us : List Token) (met : List ℕ) → Walk h.book.nodes deepest us met → length us ≤ h.steps
  long_enough w enough us met v = omega (arith, ap length (walk_same w v).0)

  pub dump_fails_anchors : {ts : List Token} {seen : List ℕ} → s.closed ≡ false → length h.book.nodes ≤ h.counts
      → Walk h.book.nodes deepest ts seen → length ts ≤ h.steps
      → (v : ℕ) → Memᴰ (again v) ts → number_of h.book.nodes v ≡ 0 → Fails (dumping h) s 58
  dump_fails_anchors {ts} {seen} c enough w long v m z = by h.book.nodes some
    where
      by : (g : List Vertex) → 1 ≤ length g → FirstNo s (dump_questions h g) 58
      by [] l = absurd (omega arith)
      by (x ∷ g) l = inr (unspoilt, inr (c, inr (enough, inr ((ts, seen, w), inr (long_enough w long, inl ((λ y. y ts seen w v m z), refl))))))

  pub dump_passes : {ts : List Token} {seen : List ℕ} → s.closed ≡ false → length h.book.nodes ≤ h.counts
      → Walk h.book.nodes deepest ts seen → length ts ≤ h.steps → NumberedAgain h.book ts → Passes (dumping h) s
  dump_passes {ts} {seen} c enough w long numbered = by h.book.nodes some
    where
      by : (g : List Vertex) → 1 ≤ length g → AllYes s (dump_questions h g)
      by [] l = absurd (omega arith)
      by (x ∷ g) l = (
        unspoilt,
        (
          c,
          (
            enough,
            (
              (ts, seen, w),
              (
                long_enough w long,
                ((λ us met v. subst (NumberedAgain h.book) (walk_same w v).0 numbered), tt),
              ),
            ),
          ),
        ),
      )

-- the events of a dump that passes are allowed
pub dump_allowed : (b : Book) (ts : List Token) → SoundBook b → NumberedAgain b ts → all_allowed (book_events b ts) ≡ true
dump_allowed b ts sound numbered = book_allowed b ts (looks_within b sound) (λ v m. anchor_given b.nodes v (numbered v m))

-- the due events of a walk, part by part
pub walk_dues_append : (anchors : ℕ → List ℕ) (g : List Vertex) (ts us : List Token) → walk_dues anchors g (ts ++ us) ≡ walk_dues anchors g ts ++ walk_dues anchors g us
walk_dues_append anchors g [] us = refl
walk_dues_append anchors g (t ∷ ts) us =
    ap (λ ds. token_dues anchors g t ++ ds) (walk_dues_append anchors g ts us) ∙ sym (append_assoc (token_dues anchors g t) (walk_dues anchors g ts) (walk_dues anchors g us))
