-- What is proved of walks and of composing.
use Rattle.std.specs.Prelude.{◌≡◌, ℕ, ◌+◌, Bool, List, length}
use Rattle.model.specs.Events.{Ev}
use Rattle.model.specs.Graph.{Vertex}
use Rattle.serial.specs.Walk.{Token, among, Walk}
use Rattle.serial.specs.Walks.{SoundGraph, Once, TellsLed, sum_where, collection_count, link_count}
use Rattle.serial.specs.Compose.{Composes}

-- every sound document has a walk
abbrev pub HasWalk : Type 0
HasWalk = (g : List Vertex) → SoundGraph g → (ts : List Token) × (seen : List ℕ) × Walk g (length g) ts seen

-- and only one, however many collections may be open
abbrev pub OneWalk : Type 0
OneWalk = (g : List Vertex) (d d' : ℕ) (ts ts' : List Token) (seen seen' : List ℕ) → Walk g d ts seen → Walk g d' ts' seen' → (ts ≡ ts') × (seen ≡ seen')

-- it meets exactly the nodes that paths lead to, each once
abbrev pub MeetsAll : Type 0
MeetsAll = (g : List Vertex) (d : ℕ) (ts : List Token) (seen : List ℕ) → SoundGraph g → Walk g d ts seen → TellsLed g (λ v. among v seen) × Once seen

-- its steps are the collections that paths lead to, their links, and one
abbrev pub WalkLength : Type 0
WalkLength = (g : List Vertex) (d : ℕ) (ts : List Token) (seen : List ℕ) → SoundGraph g → Walk g d ts seen → (test : ℕ → Bool) → TellsLed g test
    → length ts ≡ sum_where collection_count test 1 g + sum_where link_count test 1 g + 1

pub record WalksStand : Type 0 where
  pub has_walk : HasWalk
  pub one_walk : OneWalk
  pub meets_all : MeetsAll
  pub walk_length : WalkLength

-- events compose to one document only
abbrev pub OneDocument : Type 0
OneDocument = (es : List Ev) (g h : List Vertex) → Composes es g → Composes es h → g ≡ h
