-- The bytes of a node's anchor.
use Rattle.std.specs.Prelude.{ℕ, List, [], Some, None, Option}
use Rattle.serial.specs.Numbering.{name}

-- the anchor of a number; none has no bytes
abbrev pub name_of : Option ℕ → List ℕ
name_of None = []
name_of (Some n) = name n
