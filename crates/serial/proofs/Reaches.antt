-- The walk meets exactly the nodes that paths lead to, each once.
use Rattle.std.proofs.Common.{◌≡◌, ℕ, ◌≤◌, Bool, true, false, ◌||◌, eqb, List, [], ◌∷◌, ◌++◌, length, Some, None, Option, sym, refl, ap, ◌∙◌, inl, inr, arith}
use Rattle.std.proofs.lemmas.Bool.{eqb-true, or_cases, or_left, or_right, false≢true}
use Rattle.model.specs.Graph.{Vertex, numbered, root, follow, leads_from}
use Rattle.serial.specs.Walk.{Token, Spot, spot, among, Step, met, leaf, into, out, Steps, none, more, Walk}
use Rattle.serial.specs.Walks.{SoundGraph, LedTo, TellsLed, Once}
use Rattle.serial.proofs.Among.{Each, each_among, each_placed, among_placed}
use Rattle.serial.proofs.Going.{steps_each, steps_once}

-- a path with one place more
pub leads_more : (g : List Vertex) (o : Option ℕ) (path : List ℕ) (place : ℕ) → leads_from g o (path ++ place ∷ []) ≡ follow g (leads_from g o path) place
leads_more g o [] place = refl
leads_more g o (p ∷ path) place = leads_more g (follow g o p) path place

-- from nowhere a path leads nowhere
pub leads_nowhere : (g : List Vertex) (path : List ℕ) → leads_from g None path ≡ None
leads_nowhere g [] = refl
leads_nowhere g (p ∷ path) = leads_nowhere g path

-- the links of a node that a path leads to
pub links_led : (g : List Vertex) (v : ℕ) (x : Vertex) → LedTo g v → numbered g v ≡ Some x → Each (LedTo g) x.links
links_led g v x p h = each_placed (LedTo g) x.links λ place w e.
    (p.0 ++ place ∷ [], leads_more g (root g) p.0 place ∙ ap (λ o. follow g o place) p.1 ∙ rw h e)

root_one : (g : List Vertex) → 1 ≤ length g → root g ≡ Some 1
root_one [] h = absurd (omega arith)
root_one (x ∷ g) h = refl

-- Some path leads to each node met.
pub met_led : {g : List Vertex} {d : ℕ} {ts : List Token} {seen : List ℕ} → SoundGraph g → Walk g d ts seen → (v : ℕ) → among v seen ≡ true → LedTo g v
met_led {g} {seen = seen} sound w v a =
    each_among (LedTo g) v seen (steps_each (LedTo g) (links_led g) w.steps ((([], root_one g sound.some_node), tt), tt) tt).1 a

-- No node is met first twice.
pub met_once : {g : List Vertex} {d : ℕ} {ts : List Token} {seen : List ℕ} → Walk g d ts seen → Once seen
met_once w = steps_once w.steps tt

-- a child still to come
abbrev comes : ℕ → List Spot → Bool
comes w [] = false
comes w (spot u vs ∷ s) = among w vs || comes w s

-- met, or still to come
abbrev known : ℕ → List Spot → List ℕ → Bool
known w s n = among w n || comes w s

still : (a b c d : Bool) → (a || ((b || c) || d)) ≡ true → (b ≡ true → a ≡ true) → (a || (c || d)) ≡ true
still true b c d h k = refl
still false true c d h k = ap (λ z. z || (c || d)) (k refl)
still false false c d h k = h

moved : (a b c d : Bool) → (a || ((b || c) || d)) ≡ true → ((b || a) || (c || d)) ≡ true
moved a true c d h = refl
moved true false c d h = refl
moved false false c d h = h

moved_in : (a b c d l : Bool) → (a || ((b || c) || d)) ≡ true → ((b || a) || (l || (c || d))) ≡ true
moved_in a true c d l h = refl
moved_in true false c d l h = refl
moved_in false false c d true h = refl
moved_in false false c d false h = h

or_none : (b : Bool) → (b || false) ≡ true → b ≡ true
or_none true h = refl
or_none false h = h

module _ {g : List Vertex} where
  -- what is known stays known
  step_known : {s s' : List Spot} {n n' : List ℕ} {t : Token} → Step g s n t s' n' → (w : ℕ) → known w s n ≡ true → known w s' n' ≡ true
  step_known (met {v = v} {rest = r} {seen = n} {stack = s} a) w h =
      still (among w n) (eqb w v) (among w r) (comes w s) h (λ q. ap (λ k. among k n) (eqb-true w v q) ∙ a)
  step_known (leaf {v = v} {rest = r} {seen = n} {stack = s} a b c) w h = moved (among w n) (eqb w v) (among w r) (comes w s) h
  step_known (into {v = v} {rest = r} {seen = n} {stack = s} {x = x} a b c) w h = moved_in (among w n) (eqb w v) (among w r) (comes w s) (among w x.links) h
  step_known out w h = h

-- the links of each node met are known
abbrev Closed : List Vertex → List Spot → List ℕ → Type 0
Closed g s n = (v w : ℕ) (x : Vertex) → among v n ≡ true → numbered g v ≡ Some x → among w x.links ≡ true → known w s n ≡ true

same_links : (g : List Vertex) (v v' w : ℕ) (x x' : Vertex) → eqb v' v ≡ true → numbered g v ≡ Some x → numbered g v' ≡ Some x' → among w x'.links ≡ true → among w x.links ≡ true
same_links g v v' w x x' q h h' a =
    let e = ap (numbered g) (eqb-true v' v q) in
    let same : x ≡ x' = cc in
    ap (λ z. among w z.links) same ∙ a

module _ {g : List Vertex} (sound : SoundGraph g) where
  step_closed : {s s' : List Spot} {n n' : List ℕ} {t : Token} → Step g s n t s' n'
      → ((w : ℕ) → known w s n ≡ true → known w s' n' ≡ true) → Closed g s n → Closed g s' n'
  step_closed (met a) keep k v w x i h l = keep w (k v w x i h l)
  step_closed (leaf {v = u} {seen = n} {x = y} a b c) keep k v w x i h l = elim (or_cases (eqb v u) (among v n) i) [
    | inl q ↦ let z : false ≡ true = ap (among w) (sym (sound.leaves u y b c)) ∙ same_links g u v w y x q b h l in absurd (false≢true z)
    | inr q ↦ keep w (k v w x q h l)
  ]
  step_closed (into {v = u} {rest = r} {seen = n} {stack = s} {x = y} a b c) keep k v w x i h l = elim (or_cases (eqb v u) (among v n) i) [
    | inl q ↦ or_right (among w (u ∷ n)) (among w y.links || (among w r || comes w s)) (or_left (among w y.links) (among w r || comes w s) (same_links g u v w y x q b h l))
    | inr q ↦ keep w (k v w x q h l)
  ]
  step_closed out keep k v w x i h l = keep w (k v w x i h l)

  steps_known : {d : ℕ} {s s' : List Spot} {n n' : List ℕ} {ts : List Token} → Steps g d s n s' n' ts
      → (w : ℕ) → known w s n ≡ true → known w s' n' ≡ true
  steps_known none w h = h
  steps_known (more st l rest) w h = steps_known rest w (step_known st w h)

  steps_closed : {d : ℕ} {s s' : List Spot} {n n' : List ℕ} {ts : List Token} → Steps g d s n s' n' ts → Closed g s n → Closed g s' n'
  steps_closed none k = k
  steps_closed (more st l rest) k = steps_closed rest (step_closed st (step_known st) k)

-- what a link leads to stands among the links of the node
pub follow_link : (g : List Vertex) (v place w : ℕ) → follow g (Some v) place ≡ Some w → (x : Vertex) × (numbered g v ≡ Some x) × (numbered x.links place ≡ Some w)
follow_link g v place w h = by_node (numbered g v) refl
  where
    by_node : (o : Option Vertex) → numbered g v ≡ o → (x : Vertex) × (numbered g v ≡ Some x) × (numbered x.links place ≡ Some w)
    by_node None e = let none_is : None ≡ Some w = rw e at h in let z : ◌≡◌ {A = ℕ} 0 1 = cc in absurd (omega (arith, z))
    by_node (Some x) e = (x, e, rw e at h)

-- from a node of a list that has all links of its nodes, paths lead to nodes of the list
path_stays : (g : List Vertex) (seen : List ℕ) → ((v w : ℕ) (x : Vertex) → among v seen ≡ true → numbered g v ≡ Some x → among w x.links ≡ true → among w seen ≡ true)
    → (path : List ℕ) (v w : ℕ) → among v seen ≡ true → leads_from g (Some v) path ≡ Some w → among w seen ≡ true
path_stays g seen k [] v w a h = let same : v ≡ w = cc in ap (λ z. among z seen) (sym same) ∙ a
path_stays g seen k (place ∷ path) v w a h = by_link (follow g (Some v) place) refl (λ u i. path_stays g seen k path u w i)
  where
    by_link : (o : Option ℕ) → follow g (Some v) place ≡ o → ((u : ℕ) → among u seen ≡ true → leads_from g (Some u) path ≡ Some w → among w seen ≡ true) → among w seen ≡ true
    by_link None e go = let no_way = leads_nowhere g path in let way = ap (λ o. leads_from g o path) e in let z : ◌≡◌ {A = ℕ} 0 1 = cc in absurd (omega (arith, z))
    by_link (Some u) e go =
        let l = follow_link g v place u e in
        go u (k v u l.0 a l.1 (among_placed l.0.links place u l.2)) (sym (ap (λ o. leads_from g o path) e) ∙ h)

-- Each node is met that some path leads to.
pub led_met : {g : List Vertex} {d : ℕ} {ts : List Token} {seen : List ℕ} → SoundGraph g → Walk g d ts seen → (v : ℕ) → LedTo g v → among v seen ≡ true
led_met {g} {seen = seen} sound w v p =
    let start : Closed g (spot 0 (1 ∷ []) ∷ []) [] = λ u z x i h l. ap (λ b. b || known z (spot 0 (1 ∷ []) ∷ []) []) i in
    let closed = steps_closed sound w.steps start in
    path_stays g seen (λ u z x i h l. or_none (among z seen) (closed u z x i h l)) p.0 1 v
    (or_none (among 1 seen) (steps_known sound w.steps 1 refl))
    (ap (λ o. leads_from g o p.0) (sym (root_one g sound.some_node)) ∙ p.1)

-- The nodes met are exactly those that some path leads to.
pub walk_tells : {g : List Vertex} {d : ℕ} {ts : List Token} {seen : List ℕ} → SoundGraph g → Walk g d ts seen → TellsLed g (λ v. among v seen)
walk_tells sound w = record { led = met_led sound w; told = led_met sound w }
