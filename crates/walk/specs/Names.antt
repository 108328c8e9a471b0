-- The bytes of a written anchor.
use Rattle.std.specs.Prelude.{ℕ, List, take}
use Rattle.walk.specs.declared.name.AnchorName.{AnchorName}

abbrev pub name_in : AnchorName → List ℕ
name_in n = take n.len n.bytes
