-- Every document that can be walked has a walk.
use Rattle.std.proofs.Common.{◌≡◌, ℕ, zero, suc, ◌+◌, ◌≤◌, Bool, true, false, ◌⊎◌, List, [], ◌∷◌, length, Some, sym, refl, ap, ◌∙◌, subst, inl, inr, arith}
use Rattle.model.specs.Graph.{Vertex, numbered}
use Rattle.serial.specs.Walk.{Token, Spot, spot, among, is_collection, Step, met, leaf, into, out, Steps, none, more, Walk}
use Rattle.serial.specs.Walks.{SoundGraph, sum_met, sum_over, sum_all, weight}
use Rattle.serial.proofs.Among.{Each, each_among, each_placed, numbered_there, over_nothing, over_total}
use Rattle.serial.proofs.Determined.{finished}
use Rattle.serial.proofs.Going.{EachIn, base, work, step_base, step_each, steps_each, step_over, step_work, step_open}

-- the number of a node of g
abbrev pub Inside : List Vertex → ℕ → Type 0
Inside g v = (1 ≤ v) × (v ≤ length g)

-- the links of a node name nodes
pub links_within : (g : List Vertex) → SoundGraph g → (v : ℕ) (x : Vertex) → Inside g v → numbered g v ≡ Some x → Each (Inside g) x.links
links_within g sound v x i h = each_placed (Inside g) x.links (sound.links_inside v x h)

-- some step
record Goes (g : List Vertex) (s : List Spot) (n : List ℕ) : Type 0 where
  token : Token
  stack : List Spot
  met_then : List ℕ
  step : Step g s n token stack met_then

some_step : {g : List Vertex} {s s' : List Spot} {n n' : List ℕ} {t : Token} → Step g s n t s' n' → Goes g s n
some_step st = record { token = _; stack = _; met_then = _; step = st }

-- the walk goes on until it is finished
goes_on : (g : List Vertex) (s : List Spot) (n : List ℕ) → base 1 s ≡ 0 → EachIn (Inside g) s → (s ≡ finished) ⊎ Goes g s n
goes_on g [] n b e = absurd (omega arith)
goes_on g (spot u [] ∷ []) n b e = inl (ap (λ k. spot k [] ∷ []) b)
goes_on g (spot v [] ∷ (spot u rest ∷ stack)) n b e = inr (some_step out)
goes_on g (spot u (v ∷ rest) ∷ stack) n b e = by_met (among v n) refl
  where
    by_kind : (x : Vertex) (c : Bool) → is_collection x.look.kind ≡ c → numbered g v ≡ Some x → among v n ≡ false → Goes g (spot u (v ∷ rest) ∷ stack) n
    by_kind x false c h a = some_step (leaf a h c)
    by_kind x true c h a = some_step (into a h c)

    by_met : (m : Bool) → among v n ≡ m → (spot u (v ∷ rest) ∷ stack ≡ finished) ⊎ Goes g (spot u (v ∷ rest) ∷ stack) n
    by_met true a = inr (some_step (met a))
    by_met false a = let there = numbered_there g v e.0.0.0 e.0.0.1 in inr (by_kind there.0 _ refl there.1 a)

record Ends (g : List Vertex) (deep : ℕ) (s : List Spot) (n : List ℕ) : Type 0 where
  seen : List ℕ
  tokens : List Token
  steps : Steps g deep s n finished seen tokens

-- each node counted as one, together they are as many as there are
pub total_one : (g : List Vertex) → sum_all (λ x. 1) g ≡ length g
total_one [] = refl
total_one (x ∷ g) = omega (arith, total_one g)

some_work : (s : List Spot) → base 1 s ≡ 0 → 1 ≤ work s
some_work [] b = absurd (omega arith)
some_work (spot u vs ∷ s) b = omega arith

ended : (g : List Vertex) (deep : ℕ) (s : List Spot) (n : List ℕ) → s ≡ finished → Ends g deep s n
ended g deep s n q = record { seen = n; tokens = []; steps = subst (λ z. Steps g deep z n finished n []) (sym q) none }

-- k is as much as is left to do
go : (g : List Vertex) → SoundGraph g → (k : ℕ) (s : List Spot) (n : List ℕ) → base 1 s ≡ 0 → EachIn (Inside g) s → Each (Inside g) n
    → ((f : Vertex → ℕ) → sum_over f 1 g n ≡ sum_met f g n) → length s ≤ suc (sum_met (λ x. 1) g n)
    → sum_all weight g + work s ≤ k + sum_met weight g n → Ends g (length g) s n
go g sound zero s n b e i over l w = absurd (omega (arith, over weight, over_total weight 1 g n, some_work s b))
go g sound (suc k) s n b e i over l w = elim (goes_on g s n b e) [
  | inl q ↦ ended g (length g) s n q
  | inr q ↦
      let s' : List Spot = q.stack in
      let n' : List ℕ = q.met_then in
      let k' = step_each (Inside g) (links_within g sound) q.step e i in
      let over' : (f : Vertex → ℕ) → sum_over f 1 g n' ≡ sum_met f g n' = λ f. step_over f q.step (over f) in
      let l' = step_open q.step l in
      let r = go g sound k s' n' (step_base q.step ∙ b) k'.0 k'.1 over' l' (omega (arith, step_work q.step)) in
      let few : length s' ≤ suc (length g) = omega (arith, over' (λ x. 1), over_total (λ x. 1) 1 g n', total_one g) in
      record { seen = r.seen; tokens = q.token ∷ r.tokens; steps = more q.step few r.steps }
]

-- A walk of every document that can be walked: no more collections are open than it has nodes.
pub walk_exists : (g : List Vertex) → SoundGraph g → (ts : List Token) × (seen : List ℕ) × Walk g (length g) ts seen
walk_exists g sound =
    let r = go g sound (sum_all weight g + 2) (spot 0 (1 ∷ []) ∷ []) [] refl (((omega arith, sound.some_node), tt), tt) tt (λ f. over_nothing f 1 g) (omega arith) (omega arith) in
    (r.tokens, r.seen, record { steps = r.steps })

-- The numbers met are those of nodes.
pub met_inside : {g : List Vertex} {d : ℕ} {ts : List Token} {seen : List ℕ} → SoundGraph g → Walk g d ts seen → (v : ℕ) → among v seen ≡ true → (1 ≤ v) × (v ≤ length g)
met_inside {g} {seen = seen} sound w v a =
    each_among (Inside g) v seen (steps_each (Inside g) (links_within g sound) w.steps (((omega arith, sound.some_node), tt), tt) tt).1 a
