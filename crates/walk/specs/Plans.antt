-- What planning answers, and when.
use Rattle.std.specs.Prelude.{◌≡◌, ℕ, ◌+◌, ◌<◌, ◌≤◌, Bool, ◌&&◌, List, ◌∷◌, ◌++◌, map, length, drop, Option, Ok, Err, Result, ◌==◌, ◌≢◌}
use Rattle.std.specs.List.{find}
use Rattle.std.specs.Option.{option_map}
use mathlib.Core.List.{Memᴰ}
use Rattle.model.specs.Graph.{Vertex}
use Rattle.serial.specs.Walk.{Token, first, again, leave, Walk}
use Rattle.serial.specs.Walks.{collections_met, links_met, collection_count, link_count, sum_where, TellsLed}
use Rattle.serial.specs.Numbering.{number_of, anchor_of}
use Rattle.serial.specs.RoundTrip.{Tells}
use Rattle.walk.specs.declared.entry.Counted.{Counted}
use Rattle.walk.specs.declared.entry.Step.{Step}
use Rattle.walk.specs.declared.planning.Unplanned.{Unplanned}
use Rattle.walk.specs.declared.planning.Unplanned.TheVariants.{NoNodes, TooFewCounts, TooDeep, TooFewSteps, NoAnchor}
use Rattle.walk.specs.Entries.{entry_at}
use Rattle.walk.specs.Looks.{Inside}
use Rattle.walk.specs.Going.{step_of}

-- a node met again that has no anchor
abbrev pub lacks : List Counted → Step → Bool
lacks t s = s.what == 2 && (entry_at t s.node).anchor == 0

-- the first of the steps that meets such a node
abbrev pub first_lacking : List Counted → List Step → Option ℕ
first_lacking t ss = option_map (λ (s : Step). s.node) (find (lacks t) ss)

-- every node that is met again has an anchor
abbrev pub AllNamed : List Vertex → List Token → Type 0
AllNamed g ts = (v : ℕ) → Memᴰ (again v) ts → number_of g v ≢ 0

-- the node v is the first that is met again without an anchor
pub record FirstUnnamed (g : List Vertex) (ts : List Token) (v : ℕ) : Type 0 where
  pub before : List Token
  pub rest : List Token
  pub split : ts ≡ before ++ again v ∷ rest
  pub unnamed : number_of g v ≡ 0
  pub others : AllNamed g before

-- the node of a step
abbrev pub node_in : Token → ℕ
node_in (first v) = v
node_in (again v) = v
node_in (leave v) = v

-- every step is about a node
abbrev pub AllInside : List Vertex → List Token → Type 0
AllInside g ts = (t : Token) → Memᴰ t ts → Inside g (node_in t)

-- the document has a node, and the counting table an entry for each
pub record Enough (g : List Vertex) (counts : ℕ) : Type 0 where
  pub some : 1 ≤ length g
  pub room : length g ≤ counts

-- The walk with at most 256 collections open at once. It is the only one, however many may be open;
-- it has one step for each collection met, one for each link of the nodes met, and one more; the nodes met are those that a path leads to.
pub record TheWalk (g : List Vertex) (ts : List Token) (seen : List ℕ) : Type 0 where
  pub walk : Walk g 256 ts seen
  pub only : (deep : ℕ) (us : List Token) (met : List ℕ) → Walk g deep us met → (us ≡ ts) × (met ≡ seen)
  pub count : length ts ≡ collections_met g seen + links_met g seen + 1
  pub by_paths : (test : ℕ → Bool) → TellsLed g test → length ts ≡ sum_where collection_count test 1 g + sum_where link_count test 1 g + 1

pub record FewCounts (g : List Vertex) (counts : ℕ) : Type 0 where
  pub some : 1 ≤ length g
  pub few : counts < length g

-- there is a walk, and none with at most 256 collections open at once
pub record Deep (g : List Vertex) (counts : ℕ) : Type 0 where
  pub enough : Enough g counts
  pub tokens : List Token
  pub seen : List ℕ
  pub walk : Walk g (length g) tokens seen
  pub too_deep : (ts : List Token) (met : List ℕ) → Walk g 256 ts met → ⊥

pub record FewSteps (g : List Vertex) (counts room : ℕ) : Type 0 where
  pub enough : Enough g counts
  pub tokens : List Token
  pub seen : List ℕ
  pub walk : TheWalk g tokens seen
  pub few : room < length tokens

pub record Unnamed (g : List Vertex) (counts room v : ℕ) : Type 0 where
  pub enough : Enough g counts
  pub tokens : List Token
  pub seen : List ℕ
  pub walk : TheWalk g tokens seen
  pub fits : length tokens ≤ room
  pub first_one : FirstUnnamed g tokens v

-- the step table holds the walk, and is as before past it; the counting table holds the anchors' numbers
pub record ReadyToWrite (g : List Vertex) (counts : ℕ) (steps : List Step) (n : ℕ) (t : List Counted) (s : List Step) : Type 0 where
  pub enough : Enough g counts
  pub tokens : List Token
  pub seen : List ℕ
  pub walk : TheWalk g tokens seen
  pub fits : length tokens ≤ length steps
  pub count : n ≡ length tokens
  pub named : AllNamed g tokens
  pub steps_hold : s ≡ map step_of tokens ++ drop (length tokens) steps
  pub anchors_hold : (v : ℕ) → (entry_at t v).anchor ≡ number_of g v
  pub anchors_few : (v : ℕ) → number_of g v ≤ 4096
  pub inside : AllInside g tokens
  pub tells : Tells (anchor_of g) tokens

-- each answer with its side of the tests
abbrev pub Plans : List Vertex → ℕ → List Step → Result ℕ Unplanned → List Counted → List Step → Type 0
Plans g counts steps (Err NoNodes) t s = length g ≡ 0
Plans g counts steps (Err TooFewCounts) t s = FewCounts g counts
Plans g counts steps (Err TooDeep) t s = Deep g counts
Plans g counts steps (Err TooFewSteps) t s = FewSteps g counts (length steps)
Plans g counts steps (Err (NoAnchor v)) t s = Unnamed g counts (length steps) v
Plans g counts steps (Ok n) t s = ReadyToWrite g counts steps n t s

-- there is no second answer
abbrev pub Determined : Type 0
Determined = (g : List Vertex) (counts : ℕ) (steps : List Step) (a b : Result ℕ Unplanned) (t t' : List Counted) (s s' : List Step)
    → Plans g counts steps a t s → Plans g counts steps b t' s' → a ≡ b

-- what the walk starts from: the anchors' numbers are in the table, and no node is met
pub record Prepared (g : List Vertex) (t : List Counted) : Type 0 where
  pub enough : Enough g (length t)
  pub anchors : (v : ℕ) → (entry_at t v).anchor ≡ number_of g v
  pub unmet : (v : ℕ) → (entry_at t v).serialized ≡ 0
