-- What one step of a walk keeps and what it counts.
use Rattle.std.proofs.Common.{◌≡◌, ℕ, suc, ◌+◌, ◌≤◌, true, cond, eqb, List, [], ◌∷◌, length, Some, refl, ap, arith}
use Rattle.std.proofs.lemmas.Bool.{or_right}
use Rattle.model.specs.Graph.{Vertex, numbered}
use Rattle.serial.specs.Walk.{Token, Spot, spot, among, Step, met, leaf, into, out, Steps, none, more}
use Rattle.serial.specs.Walks.{met_by, sum_met, sum_over, count_of, weight, Once}
use Rattle.serial.proofs.Among.{Each, over_more}

-- each child still to come has the property
abbrev pub EachIn : (ℕ → Type 0) → List Spot → Type 0
EachIn P [] = Unit
EachIn P (spot u vs ∷ s) = Each P vs × EachIn P s

-- the number of the outermost spot
abbrev pub base : ℕ → List Spot → ℕ
base d [] = d
base d (spot u vs ∷ s) = base u s

-- the steps that the open collections still take: one for each child, and one to leave
abbrev pub work : List Spot → ℕ
work [] = 0
work (spot u vs ∷ s) = suc (length vs) + work s

-- one node more counts what it counts
pub met_more : (g : List Vertex) (f : Vertex → ℕ) (v : ℕ) (x : Vertex) (n : List ℕ) → numbered g v ≡ Some x → sum_met f g (v ∷ n) ≡ f x + sum_met f g n
met_more g f v x n h = ap (λ o. count_of f o + sum_met f g n) h

module _ {g : List Vertex} where
  -- the outermost spot stays
  pub step_base : {s s' : List Spot} {n n' : List ℕ} {t : Token} → Step g s n t s' n' → base 1 s' ≡ base 1 s
  step_base (met a) = refl
  step_base (leaf a b c) = refl
  step_base (into a b c) = refl
  step_base out = refl

  -- a property that passes on to links passes on to all that comes and all that is met
  pub step_each : (P : ℕ → Type 0) → ((v : ℕ) (x : Vertex) → P v → numbered g v ≡ Some x → Each P x.links)
      → {s s' : List Spot} {n n' : List ℕ} {t : Token} → Step g s n t s' n' → EachIn P s → Each P n → EachIn P s' × Each P n'
  step_each P pass (met a) e k = ((e.0.1, e.1), k)
  step_each P pass (leaf a b c) e k = ((e.0.1, e.1), (e.0.0, k))
  step_each P pass (into {v = v} {x = x} a b c) e k = ((pass v x e.0.0 b, (e.0.1, e.1)), (e.0.0, k))
  step_each P pass out e k = (e.1, k)

  pub steps_each : (P : ℕ → Type 0) → ((v : ℕ) (x : Vertex) → P v → numbered g v ≡ Some x → Each P x.links)
      → {d : ℕ} {s s' : List Spot} {n n' : List ℕ} {ts : List Token} → Steps g d s n s' n' ts → EachIn P s → Each P n → EachIn P s' × Each P n'
  steps_each P pass none e k = (e, k)
  steps_each P pass (more st l rest) e k = let r = step_each P pass st e k in steps_each P pass rest r.0 r.1

  step_once : {s s' : List Spot} {n n' : List ℕ} {t : Token} → Step g s n t s' n' → Once n → Once n'
  step_once (met a) o = o
  step_once (leaf a b c) o = (a, o)
  step_once (into a b c) o = (a, o)
  step_once out o = o

  pub steps_once : {d : ℕ} {s s' : List Spot} {n n' : List ℕ} {ts : List Token} → Steps g d s n s' n' ts → Once n → Once n'
  steps_once none o = o
  steps_once (more st l rest) o = steps_once rest (step_once st o)

  -- counted over the nodes met or over all nodes that were met, a step adds the same
  pub step_over : (f : Vertex → ℕ) {s s' : List Spot} {n n' : List ℕ} {t : Token} → Step g s n t s' n'
      → sum_over f 1 g n ≡ sum_met f g n → sum_over f 1 g n' ≡ sum_met f g n'
  step_over f (met a) h = h
  step_over f (leaf {v = v} {seen = n} {x = x} a b c) h = omega (arith, over_more f v g n x a b, met_more g f v x n b)
  step_over f (into {v = v} {seen = n} {x = x} a b c) h = omega (arith, over_more f v g n x a b, met_more g f v x n b)
  step_over f out h = h

  pub steps_over : (f : Vertex → ℕ) {d : ℕ} {s s' : List Spot} {n n' : List ℕ} {ts : List Token} → Steps g d s n s' n' ts
      → sum_over f 1 g n ≡ sum_met f g n → sum_over f 1 g n' ≡ sum_met f g n'
  steps_over f none h = h
  steps_over f (more st l rest) h = steps_over f rest (step_over f st h)

  -- each step takes one from the work, and meeting a collection adds the work of its children and its end
  pub step_work : {s s' : List Spot} {n n' : List ℕ} {t : Token} → Step g s n t s' n' → suc (work s') + sum_met weight g n ≡ work s + sum_met weight g n'
  step_work (met a) = omega arith
  step_work (leaf {v = v} {seen = n} {x = x} a b c) =
      let w : weight x ≡ 0 = ap (λ t. cond t (suc (length x.links)) 0) c in omega (arith, met_more g weight v x n b)
  step_work (into {v = v} {seen = n} {x = x} a b c) =
      let w : weight x ≡ suc (length x.links) = ap (λ t. cond t (suc (length x.links)) 0) c in omega (arith, met_more g weight v x n b)
  step_work out = omega arith

  pub steps_work : {d : ℕ} {s s' : List Spot} {n n' : List ℕ} {ts : List Token} → Steps g d s n s' n' ts
      → work s' + length ts + sum_met weight g n ≡ work s + sum_met weight g n'
  steps_work none = omega arith
  steps_work (more st l rest) = omega (arith, step_work st, steps_work rest)

  -- no more collections are open than nodes were met
  pub step_open : {s s' : List Spot} {n n' : List ℕ} {t : Token} → Step g s n t s' n'
      → length s ≤ suc (sum_met (λ x. 1) g n) → length s' ≤ suc (sum_met (λ x. 1) g n')
  step_open (met a) h = h
  step_open (leaf {v = v} {seen = n} {x = x} a b c) h = omega (arith, met_more g (λ x. 1) v x n b)
  step_open (into {v = v} {seen = n} {x = x} a b c) h = omega (arith, met_more g (λ x. 1) v x n b)
  step_open out h = omega arith

  -- the nodes met can be read off the tokens
  pub steps_met : {d : ℕ} {s s' : List Spot} {n n' : List ℕ} {ts : List Token} → Steps g d s n s' n' ts → n' ≡ met_by n ts
  steps_met none = refl
  steps_met (more (met a) l rest) = steps_met rest
  steps_met (more (leaf a b c) l rest) = steps_met rest
  steps_met (more (into a b c) l rest) = steps_met rest
  steps_met (more out l rest) = steps_met rest

  -- a node met stays met
  step_stays : {s s' : List Spot} {n n' : List ℕ} {t : Token} → Step g s n t s' n' → (w : ℕ) → among w n ≡ true → among w n' ≡ true
  step_stays (met a) w h = h
  step_stays (leaf {v = v} {seen = n} a b c) w h = or_right (eqb w v) (among w n) h
  step_stays (into {v = v} {seen = n} a b c) w h = or_right (eqb w v) (among w n) h
  step_stays out w h = h

  pub steps_stay : {d : ℕ} {s s' : List Spot} {n n' : List ℕ} {ts : List Token} → Steps g d s n s' n' ts → (w : ℕ) → among w n ≡ true → among w n' ≡ true
  steps_stay none w h = h
  steps_stay (more st l rest) w h = steps_stay rest w (step_stays st w h)

  -- each node met is a node
  step_nodes : {s s' : List Spot} {n n' : List ℕ} {t : Token} → Step g s n t s' n' → sum_met (λ x. 1) g n ≡ length n → sum_met (λ x. 1) g n' ≡ length n'
  step_nodes (met a) h = h
  step_nodes (leaf {v = v} {seen = n} {x = x} a b c) h = omega (arith, met_more g (λ x. 1) v x n b)
  step_nodes (into {v = v} {seen = n} {x = x} a b c) h = omega (arith, met_more g (λ x. 1) v x n b)
  step_nodes out h = h

  pub steps_nodes : {d : ℕ} {s s' : List Spot} {n n' : List ℕ} {ts : List Token} → Steps g d s n s' n' ts → sum_met (λ x. 1) g n ≡ length n → sum_met (λ x. 1) g n' ≡ length n'
  steps_nodes none h = h
  steps_nodes (more st l rest) h = steps_nodes rest (step_nodes st h)
