-- The steps of a walk are about nodes, and the anchors' numbers are small.
use Rattle.std.proofs.Common.{◌≡◌, ℕ, suc, ◌+◌, ◌≤◌, eqb, ◌≢◌, List, [], ◌∷◌, ◌++◌, length, Some, sym, ap, ◌∙◌, subst, inl, inr, arith}
use mathlib.Core.List.{Memᴰ}
use Rattle.std.specs.List.{AllByRecursion}
use Rattle.std.proofs.ByRecursion.{All-append, All-push, All-weaker}
use Rattle.std.proofs.lemmas.Bool.{cases_Bool, cond-true, cond-false, ne_eqb}
use Rattle.model.specs.Graph.{Vertex, Book, numbered}
use Rattle.document.specs.Sound.{Names, SoundBook}
use Rattle.serial.specs.Walk.{Token, leave}
use Rattle.serial.specs.Walks.{Visit, visit_again, visit_leaf, visit_into, Visits, no_visit, visit_more}
use Rattle.serial.specs.Numbering.{place_from, number_of, name, anchor_of}
use Rattle.walk.specs.Looks.{Inside}
use Rattle.walk.specs.Plans.{node_in, AllInside}
use Rattle.walk.proofs.Sounds.{vertex_at_lem}

pub place_few : (k v : ℕ) (ws : List ℕ) → place_from (suc k) v ws ≤ k + length ws
place_few k v [] = omega arith
place_few k v (w ∷ ws) = elim (cases_Bool (eqb v w)) [
  | inl e ↦ omega (arith, cond-true (eqb v w) (suc k) (place_from (suc (suc k)) v ws) e)
  | inr e ↦ omega (arith, cond-false (eqb v w) (suc k) (place_from (suc (suc k)) v ws) e, place_few (suc k) v ws)
]

-- a node with a number has an anchor
pub named_some : (g : List Vertex) (v : ℕ) → (number_of g v ≡ 0 → ⊥) → anchor_of g v ≢ []
named_some g v some e =
    let n = number_of g v in
    let is = cond-false (eqb n 0) [] (name n) (ne_eqb n 0 some) in
    omega (arith, ap length (sym is ∙ e))

abbrev About : List Vertex → Token → Type 0
About g t = Inside g (node_in t)

all_front : {X : Type 0} (P : X → Type 0) (xs : List X) (x : X) → AllByRecursion P (xs ++ x ∷ []) → AllByRecursion P xs × P x
all_front P [] x all = (tt, all.0)
all_front P (y ∷ ys) x all = let rest = all_front P ys x all.1 in ((all.0, rest.0), rest.1)

mutual
  visit_inside : {g : List Vertex} {deep depth v : ℕ} {seen seen' : List ℕ} {ts : List Token} → ((v : ℕ) (x : Vertex) → numbered g v ≡ Some x → AllByRecursion (Inside g) x.links)
      → Visit g deep depth seen v ts seen' → Inside g v → AllByRecursion (About g) ts
  visit_inside {g} links (visit_again a p q) i = subst (λ (ts : List Token). AllByRecursion (About g) ts) (sym p) (i, tt)
  visit_inside {g} links (visit_leaf a b c p q) i = subst (λ (ts : List Token). AllByRecursion (About g) ts) (sym p) (i, tt)
  visit_inside {g} {v = v} links (visit_into {inner = us} {x = x} a b c o vs p) i =
      subst (λ (ts : List Token). AllByRecursion (About g) ts) (sym p) (i, All-push (About g) us (leave v) (visits_inside links vs (links v x b)) i)

  visits_inside : {g : List Vertex} {deep depth : ℕ} {seen vs seen' : List ℕ} {ts : List Token} → ((v : ℕ) (x : Vertex) → numbered g v ≡ Some x → AllByRecursion (Inside g) x.links)
      → Visits g deep depth seen vs ts seen' → AllByRecursion (Inside g) vs → AllByRecursion (About g) ts
  visits_inside {g} links (no_visit p q r) all = subst (λ (ts : List Token). AllByRecursion (About g) ts) (sym q) tt
  visits_inside {g} links (visit_more {v = v} {vs = ws} {ts = ts} {us = us} before w p q) all =
      let parts = all_front (Inside g) ws v (subst (λ (xs : List ℕ). AllByRecursion (Inside g) xs) p all) in
      subst (λ (xs : List Token). AllByRecursion (About g) xs) (sym q) (All-append (About g) ts us (visits_inside links before parts.0) (visit_inside links w parts.1))

all_member : (g : List Vertex) (ts : List Token) → AllByRecursion (About g) ts → (t : Token) → Memᴰ t ts → About g t
all_member g [] all t m = elim m [ ]
all_member g (x ∷ ts) all t (Memᴰ.head e) = subst (About g) (sym e) all.0
all_member g (x ∷ ts) all t (Memᴰ.tail m) = all_member g ts all.1 t m

pub all_inside : (b : Book) (ts : List Token) (seen : List ℕ) → SoundBook b → 1 ≤ length b.nodes → Visit b.nodes 256 0 [] 1 ts seen → AllInside b.nodes ts
all_inside b ts seen s some visit =
    all_member b.nodes ts
    (visit_inside
    (λ v x e. All-weaker (Names (length b.nodes)) (Inside b.nodes) (λ w n. record { low = n.low; high = n.high }) x.links (vertex_at_lem b s v x e).links_name)
    visit record { low = omega arith; high = some })
