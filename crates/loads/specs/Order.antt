-- The nodes of what is composed are numbered in the order in which a walk first meets them, and a path leads to each.
use Rattle.std.specs.Prelude.{◌≡◌, ℕ, zero, suc, ◌≤◌, true, List, [], ◌∷◌, length}
use Rattle.model.specs.Events.{Ev, all_allowed}
use Rattle.model.specs.Graph.{Vertex}
use Rattle.serial.specs.Walk.{Token, Walk}
use Rattle.serial.specs.Walks.{LedTo}
use Rattle.serial.specs.Compose.{Composes}

-- n, and so on down to 1
abbrev pub down_from : ℕ → List ℕ
down_from zero = []
down_from (suc n) = suc n ∷ down_from n

-- some walk meets all nodes in order; the newest stands first
pub record Walked (g : List Vertex) : Type 0 where
  pub tokens : List Token
  pub walk : Walk g (length g) tokens (down_from (length g))

abbrev pub ComposedWalk : Type 0
ComposedWalk = (es : List Ev) (g : List Vertex) → Composes es g → Walked g

-- every walk does
abbrev pub ComposedOrder : Type 0
ComposedOrder = (es : List Ev) (g : List Vertex) (deep : ℕ) (ts : List Token) (seen : List ℕ) → Composes es g → Walk g deep ts seen → seen ≡ down_from (length g)

-- a path leads to every node
abbrev pub ComposedLed : Type 0
ComposedLed = (es : List Ev) (g : List Vertex) (v : ℕ) → all_allowed es ≡ true → Composes es g → 1 ≤ v → v ≤ length g → LedTo g v
