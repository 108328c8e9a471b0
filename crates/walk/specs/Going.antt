-- What the walk over the nodes does to the two tables.
use Rattle.std.specs.Prelude.{◌≡◌, ℕ, suc, ◌+◌, ◌≤◌, Bool, false, cond, not, List, [], ◌∷◌, length, Some, Ok, Err, Result, ◌==◌, slice_set}
use Rattle.model.specs.declared.NodeKind.{NodeKind}
use Rattle.model.specs.Graph.{Vertex, numbered}
use Rattle.serial.specs.Walk.{Token, first, again, leave, among}
use Rattle.serial.specs.Walks.{weight, Visit, IsTooDeep}
use Rattle.walk.specs.declared.entry.Counted.{Counted}
use Rattle.walk.specs.declared.entry.Step.{Step}
use Rattle.walk.specs.declared.entry.StepKind.{StepKind}
use Rattle.walk.specs.declared.dump.TooDeep.{TooDeep}
use Rattle.walk.specs.declared.dump.Walk.{Walk}
use Rattle.walk.specs.Entries.{made, entry_at, step_number}
use Rattle.walk.specs.Looks.{Inside, links_at}

-- the entry of a step
abbrev pub step_of : Token → Step
step_of (first v) = made 1 v
step_of (again v) = made 2 v
step_of (leave v) = made 3 v

-- the table with these steps, from a place on; past the end nothing changes
abbrev pub puts : List Step → ℕ → List Token → List Step
puts s at [] = s
puts s at (t ∷ ts) = puts (slice_set s at (step_of t)) (suc at) ts

-- both tables, and how many steps were counted
pub record State : Type 0 where
  pub counting : List Counted
  pub steps : List Step
  pub at : ℕ

abbrev pub state : List Counted → List Step → ℕ → State
state t s n = record { counting = t; steps = s; at = n }

abbrev pub state_of : Walk → State
state_of w = state w.counting.now w.steps.now w.count

-- both tables are those that they were, as long as they were
pub record SameTables (a b : Walk) : Type 0 where
  pub counting : a.counting.ghost_name ≡ b.counting.ghost_name
  pub steps : a.steps.ghost_name ≡ b.steps.ghost_name
  pub nodes : length b.counting.now ≡ length a.counting.now
  pub room : length b.steps.now ≡ length a.steps.now

-- one more step of that kind, about the node v
pub record Stepped (k : StepKind) (v : ℕ) (p q : State) : Type 0 where
  pub counting : q.counting ≡ p.counting
  pub wrote : q.steps ≡ slice_set p.steps p.at (made (step_number k) v)
  pub count : q.at ≡ p.at + 1

-- whether the table says that a node was met
abbrev pub met_at : List Counted → ℕ → Bool
met_at t v = not ((entry_at t v).serialized == 0)

-- it says so of exactly the nodes of the list
abbrev pub Marks : List Counted → List ℕ → Type 0
Marks t seen = (v : ℕ) → met_at t v ≡ among v seen

-- the steps that the nodes met bring with them
abbrev pub weighed : List Vertex → List Counted → ℕ
weighed [] t = 0
weighed (x ∷ g) [] = 0
weighed (x ∷ g) (c ∷ t) = cond (c.serialized == 0) 0 (weight x) + weighed g t

-- anchors stay as they are
abbrev pub SameAnchors : List Counted → List Counted → Type 0
SameAnchors t t' = (v : ℕ) → (entry_at t' v).anchor ≡ (entry_at t v).anchor

-- a visit of the node v from one state to another, where the nodes of the list were met before
pub record WentFrom (g : List Vertex) (depth v : ℕ) (p q : State) (seen : List ℕ) : Type 0 where
  pub tokens : List Token
  pub met : List ℕ
  pub visit : Visit g 256 depth seen v tokens met
  pub marks : Marks q.counting met
  pub steps : q.steps ≡ puts p.steps p.at tokens
  pub at : q.at ≡ p.at + length tokens

-- what a visit needs
pub record CanVisit (g : List Vertex) (depth v : ℕ) (p : State) : Type 0 where
  pub inside : Inside g v
  pub room : length g ≤ length p.counting
  pub depth_fits : depth ≤ 256
  pub few : p.at ≤ weighed g p.counting

pub record Went (g : List Vertex) (depth v : ℕ) (p q : State) : Type 0 where
  pub from : (seen : List ℕ) → Marks p.counting seen → WentFrom g depth v p q seen
  pub anchors : SameAnchors p.counting q.counting
  pub weighs : q.at + weighed g p.counting ≡ p.at + 1 + weighed g q.counting

abbrev pub NoWay : List Vertex → ℕ → ℕ → State → Type 0
NoWay g depth v p = (seen : List ℕ) → Marks p.counting seen → IsTooDeep g 256 depth seen v

-- a visit, by its answer
abbrev pub Visited : List Vertex → ℕ → ℕ → State → Result (Unit {0}) TooDeep → State → Type 0
Visited g depth v p (Ok u) q = Went g depth v p q
Visited g depth v p (Err e) q = NoWay g depth v p

-- what the visit of a collection of kind k needs, which is marked as met before its steps are written
pub record CanOpen (g : List Vertex) (k : NodeKind) (depth v : ℕ) (p : State) : Type 0 where
  pub inside : Inside g v
  pub room : length g ≤ length p.counting
  pub depth_fits : depth ≤ 256
  pub few : p.at + suc (length (links_at g v)) ≤ weighed g p.counting
  pub vertex : Vertex
  pub there : numbered g v ≡ Some vertex
  pub kind : vertex.look.kind ≡ k

pub record Opening (g : List Vertex) (depth v : ℕ) (p q : State) : Type 0 where
  pub from : (seen : List ℕ) → among v seen ≡ false → Marks p.counting (v ∷ seen) → WentFrom g depth v p q seen
  pub anchors : SameAnchors p.counting q.counting
  pub weighs : q.at + weighed g p.counting ≡ p.at + 2 + length (links_at g v) + weighed g q.counting

abbrev pub NoOpening : List Vertex → ℕ → ℕ → State → Type 0
NoOpening g depth v p = (seen : List ℕ) → among v seen ≡ false → Marks p.counting (v ∷ seen) → IsTooDeep g 256 depth seen v

-- the visit of a collection, by its answer
abbrev pub Opened : List Vertex → ℕ → ℕ → State → Result (Unit {0}) TooDeep → State → Type 0
Opened g depth v p (Ok u) q = Opening g depth v p q
Opened g depth v p (Err e) q = NoOpening g depth v p
