use Rattle.std.proofs.Common.{◌≡◌, take, drop, None}
use Rattle.composer.specs.Names.{found}
use Rattle.composer.proofs.names.find.Given as goal

-- the bytes passed are equal
abbrev pub invariant-loop-i : goal.invariant-loop-i
invariant-loop-i l = take l.i l.bytes ≡ take l.i l.name

-- the anchors left decide
abbrev pub invariant-anchors : goal.invariant-anchors
invariant-anchors l = (found (drop l.anchor-index l.anchors) l.name ≡ found l.anchors l.name) × (l.node ≡ None)
