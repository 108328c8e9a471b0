-- Which tags stand for the default of a node's kind.
use Rattle.std.specs.Prelude.{ℕ, Bool, true, false, List, [], ◌∷◌, ◌==◌}

-- an absent tag, or the one byte `!`
abbrev pub bare_tag : List ℕ → Bool
bare_tag [] = true
bare_tag (b ∷ []) = b == 33
bare_tag (b ∷ (c ∷ bs)) = false
