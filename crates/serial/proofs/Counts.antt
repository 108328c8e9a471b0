-- How long a walk is.
use Rattle.std.proofs.Common.{◌≡◌, ℕ, suc, ◌+◌, ◌≤◌, Bool, true, false, cond, List, [], ◌∷◌, length, Some, None, Option, sym, refl, ap, ap₂, arith}
use Rattle.model.specs.Graph.{Vertex, numbered}
use Rattle.serial.specs.Walk.{Token, among, is_collection, Walk}
use Rattle.serial.specs.Walks.{SoundGraph, TellsLed, sum_met, sum_over, sum_where, count_of, collection_count, link_count, collections_met, links_met, sum_all, weight, met_by}
use Rattle.serial.proofs.Among.{over_nothing, over_total}
use Rattle.serial.proofs.Going.{steps_work, steps_over, steps_nodes, steps_met}
use Rattle.serial.proofs.Exists.{total_one}
use Rattle.serial.proofs.Reaches.{met_led, led_met}

parts : (x : Vertex) (c : Bool) → is_collection x.look.kind ≡ c → (c ≡ false → x.links ≡ []) → weight x ≡ collection_count x + link_count x
parts x true e h = simp e (omega arith)
parts x false e h = simp e (omega (arith, ap length (h refl)))

weight_parts : (g : List Vertex) → SoundGraph g → (seen : List ℕ) → sum_met weight g seen ≡ collections_met g seen + links_met g seen
weight_parts g sound [] = refl
weight_parts g sound (v ∷ vs) = by_node (numbered g v) refl (weight_parts g sound vs)
  where
    by_node : (o : Option Vertex) → numbered g v ≡ o → sum_met weight g vs ≡ collections_met g vs + links_met g vs
        → count_of weight o + sum_met weight g vs ≡ (count_of collection_count o + collections_met g vs) + (count_of link_count o + links_met g vs)
    by_node None e h = omega arith
    by_node (Some x) e h = omega (arith, parts x _ refl (sound.leaves v x e))

-- A walk has as many tokens as there are collections among the nodes met and links of the nodes met, and one more.
pub walk_length : {g : List Vertex} {d : ℕ} {ts : List Token} {seen : List ℕ} → SoundGraph g → Walk g d ts seen
    → length ts ≡ collections_met g seen + links_met g seen + 1
walk_length {g} {d} {ts} {seen} sound w = omega (arith, steps_work w.steps, weight_parts g sound seen)

-- counted over all nodes that were met, each once
pub met_over : {g : List Vertex} {d : ℕ} {ts : List Token} {seen : List ℕ} (f : Vertex → ℕ) → Walk g d ts seen → sum_over f 1 g seen ≡ sum_met f g seen
met_over {g} f w = steps_over f w.steps (over_nothing f 1 g)

where_over : (f : Vertex → ℕ) (test : ℕ → Bool) (seen : List ℕ) → ((v : ℕ) → test v ≡ among v seen) → (k : ℕ) (g : List Vertex) → sum_where f test k g ≡ sum_over f k g seen
where_over f test seen h k [] = refl
where_over f test seen h k (x ∷ g) = ap₂ (λ b m. cond b (f x) 0 + m) (h k) (where_over f test seen h (suc k) g)

same_test : (a b : Bool) → (a ≡ true → b ≡ true) → (b ≡ true → a ≡ true) → a ≡ b
same_test true b p q = sym (p refl)
same_test false true p q = q refl
same_test false false p q = refl

-- Counted over all nodes that some path leads to: the walk has as many tokens as these are collections and have links, and one more.
pub walk_length_by_paths : {g : List Vertex} {d : ℕ} {ts : List Token} {seen : List ℕ} → SoundGraph g → Walk g d ts seen → (test : ℕ → Bool) → TellsLed g test
    → length ts ≡ sum_where collection_count test 1 g + sum_where link_count test 1 g + 1
walk_length_by_paths {g} {d} {ts} {seen} sound w test tells =
    let same : (v : ℕ) → test v ≡ among v seen = λ v. same_test (test v) (among v seen) (λ t. led_met sound w v (tells.led v t)) (λ a. tells.told v (met_led sound w v a)) in
    omega (arith, walk_length sound w, where_over collection_count test seen same 1 g, where_over link_count test seen same 1 g, met_over collection_count w, met_over link_count w)

-- what the nodes count together that were met is no more than what all count
pub met_total : {g : List Vertex} {d : ℕ} {ts : List Token} {seen : List ℕ} (f : Vertex → ℕ) → Walk g d ts seen → sum_met f g seen ≤ sum_all f g
met_total {g} {seen = seen} f w = omega (arith, met_over f w, over_total f 1 g seen)

-- the steps that all nodes bring are no more than their number and that of their links
pub weight_total : (g : List Vertex) → sum_all weight g ≤ length g + sum_all link_count g
weight_total [] = omega arith
weight_total (x ∷ g) = by_kind (is_collection x.look.kind) (weight_total g)
  where
    by_kind : (b : Bool) → sum_all weight g ≤ length g + sum_all link_count g
        → cond b (suc (length x.links)) 0 + sum_all weight g ≤ suc (length g) + (link_count x + sum_all link_count g)
    by_kind true h = omega arith
    by_kind false h = omega arith

-- A walk has no more tokens than the document has nodes and links together, and one more.
pub walk_short : {g : List Vertex} {d : ℕ} {ts : List Token} {seen : List ℕ} → Walk g d ts seen → length ts ≤ length g + sum_all link_count g + 1
walk_short {g} w = omega (arith, steps_work w.steps, met_total weight w, weight_total g)

-- A walk meets no more nodes than there are.
pub met_few : {g : List Vertex} {d : ℕ} {ts : List Token} {seen : List ℕ} → Walk g d ts seen → length seen ≤ length g
met_few {g} w = omega (arith, met_total (λ x. 1) w, steps_nodes w.steps refl, total_one g)

-- the nodes met are those that the tokens give first, newest first
pub met_by_tokens : {g : List Vertex} {d : ℕ} {ts : List Token} {seen : List ℕ} → Walk g d ts seen → seen ≡ met_by [] ts
met_by_tokens w = steps_met w.steps
