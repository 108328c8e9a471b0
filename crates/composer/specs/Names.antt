-- Anchors as they stand in their table, and finding the node that a name stands for.
use Rattle.std.specs.Prelude.{ℕ, ◌-◌, cond, List, [], ◌∷◌, ◌++◌, length, take, replicate, Some, None, Option}
use Rattle.serial.specs.Serialize.{same_bytes}
use Rattle.composer.specs.declared.anchor.Anchor.{Anchor}

abbrev pub empty_anchor : Anchor
empty_anchor = record { bytes = replicate 64 0; size = 0; node = 0 }

-- the name of an anchor
abbrev pub name_of : Anchor → List ℕ
name_of a = take a.size a.bytes

-- the entry of an anchor that names node v: its bytes, and zeros up to 64
abbrev pub entry_of : List ℕ → ℕ → Anchor
entry_of bytes v = record { bytes = bytes ++ replicate (64 - length bytes) 0; size = length bytes; node = v }

-- the node of the first anchor with that name
abbrev pub found : List Anchor → List ℕ → Option ℕ
found [] bytes = None
found (a ∷ others) bytes = cond (same_bytes bytes (name_of a)) (Some a.node) (found others bytes)
