-- Anchors: which nodes get a number, and how the number is written.
use Rattle.std.specs.Prelude.{ℕ, suc, ◌+◌, ◌/◌, ◌%◌, cond, List, [], ◌∷◌, ◌++◌, codes, ◌==◌, nat_lt}
use Rattle.model.specs.Graph.{Vertex}

-- how often a node stands in a list
abbrev pub times : ℕ → List ℕ → ℕ
times v [] = 0
times v (w ∷ ws) = cond (v == w) (suc (times v ws)) (times v ws)

-- the references that are counted: one of the root, then one of each of the root's own links
abbrev pub references : List Vertex → List ℕ
references [] = []
references (x ∷ g) = 1 ∷ x.links

-- The nodes that get a number, in order, from the references: `before` are those already counted (newest first).
-- At its second reference a node gets the next number.
abbrev pub seconds_after : List ℕ → List ℕ → List ℕ
seconds_after before [] = []
seconds_after before (v ∷ vs) = cond (times v before == 1) (v ∷ seconds_after (v ∷ before) vs) (seconds_after (v ∷ before) vs)

abbrev pub seconds : List Vertex → List ℕ
seconds g = seconds_after [] (references g)

-- the place of v in a list, from k; 0 where it is not there
abbrev pub place_from : ℕ → ℕ → List ℕ → ℕ
place_from k v [] = 0
place_from k v (w ∷ ws) = cond (v == w) k (place_from (suc k) v ws)

-- the number of a node, from 1; 0 where it has none
abbrev pub number_of : List Vertex → ℕ → ℕ
number_of g v = place_from 1 v (seconds g)

-- a number below 10,000 with at least three digits
abbrev pub digits : ℕ → List ℕ
digits n = cond (nat_lt n 1000)
    ((48 + n / 100) ∷ ((48 + n / 10 % 10) ∷ ((48 + n % 10) ∷ [])))
    ((48 + n / 1000) ∷ ((48 + n / 100 % 10) ∷ ((48 + n / 10 % 10) ∷ ((48 + n % 10) ∷ []))))

-- the anchor with that number: `id` and the number
abbrev pub name : ℕ → List ℕ
name n = codes "id" ++ digits n

-- a node's anchor; no bytes where it has none
abbrev pub anchor_of : List Vertex → ℕ → List ℕ
anchor_of g v = cond (number_of g v == 0) [] (name (number_of g v))
