-- What visits keep, and how many tokens they give.
use Rattle.std.proofs.Common.{◌≡◌, ℕ, zero, suc, ◌+◌, ◌≤◌, true, List, [], ◌∷◌, ◌++◌, length, replicate, Some, sym, refl, subst, arith}
use Rattle.std.proofs.lemmas.List.{length-append, length-replicate, append-nil}
use Rattle.model.specs.Graph.{Vertex, numbered}
use Rattle.serial.specs.Walk.{Token, Spot, spot, among, Steps}
use Rattle.serial.specs.Walks.{Visit, Visits, no_visit, visit_more, sum_met, sum_over, weight, Once, met_by}
use Rattle.serial.proofs.Among.{Each}
use Rattle.serial.proofs.Going.{EachIn, steps_each, steps_once, steps_over, steps_work, steps_stay, steps_met}
use Rattle.serial.proofs.Visiting.{visits_steps}

-- a stack that long
abbrev around : ℕ → List Spot
around depth = replicate depth (spot 0 [])

each_around : (P : ℕ → Type 0) (depth : ℕ) → EachIn P (around depth)
each_around P zero = tt
each_around P (suc depth) = (tt, each_around P depth)

module _ {g : List Vertex} {deep depth : ℕ} (room : depth ≤ deep) {n vs n' : List ℕ} {ts : List Token} (visits : Visits g deep depth n vs ts n') where
  as_steps : Steps g deep (spot 0 (vs ++ []) ∷ around depth) n (spot 0 [] ∷ around depth) n' ts
  as_steps = visits_steps visits 0 [] (around depth) (length-replicate depth (spot 0 [])) room

  -- each node is met first once
  pub visits_once : Once n → Once n'
  visits_once o = steps_once as_steps o

  -- counted over the nodes met or over all nodes that were met, it is the same
  pub visits_over : (f : Vertex → ℕ) → sum_over f 1 g n ≡ sum_met f g n → sum_over f 1 g n' ≡ sum_met f g n'
  visits_over f h = steps_over f as_steps h

  -- what the nodes met bring with them bounds the tokens: each node visited gives one, and each collection met its links' and its end
  pub visits_count : length ts + sum_met weight g n ≡ length vs + sum_met weight g n'
  visits_count = omega (arith, steps_work as_steps, length-append vs [])

  -- a node met stays met
  pub visits_stay : (w : ℕ) → among w n ≡ true → among w n' ≡ true
  visits_stay w h = steps_stay as_steps w h

  -- the nodes met can be read off the tokens
  pub visits_met : n' ≡ met_by n ts
  visits_met = steps_met as_steps

  -- a property that passes on to links passes on to all that is met
  pub visits_each : (P : ℕ → Type 0) → ((v : ℕ) (x : Vertex) → P v → numbered g v ≡ Some x → Each P x.links) → Each P vs → Each P n → Each P n'
  visits_each P pass e k = (steps_each P pass as_steps (subst (Each P) (sym (append-nil vs)) e, each_around P depth) k).1

-- one visit is visits of one node
pub visit_alone : {g : List Vertex} {deep depth v : ℕ} {n n' : List ℕ} {ts : List Token} → Visit g deep depth n v ts n' → Visits g deep depth n (v ∷ []) ts n'
visit_alone w = visit_more (no_visit refl refl refl) w refl refl

-- a visit gives one token, and those that the nodes newly met bring
pub visit_count : {g : List Vertex} {deep depth v : ℕ} → depth ≤ deep → {n n' : List ℕ} {ts : List Token} → Visit g deep depth n v ts n'
    → length ts + sum_met weight g n ≡ suc (sum_met weight g n')
visit_count room w = omega (arith, visits_count room (visit_alone w))
