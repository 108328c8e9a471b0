use Rattle.std.proofs.Common.{◌≡◌, true, length, take}
use Rattle.std.specs.List.{list_all}
use Rattle.document.proofs.Every.{node_right}
use Rattle.document.proofs.check.cut.Cut.check_nodes.Given as goal

-- the nodes passed are right
abbrev pub invariant-loop-i : goal.invariant-loop-i
invariant-loop-i l = list_all (node_right (length l.self.nodes.now) l.self.links.now l.self.text.now) (take l.i l.self.nodes.now) ≡ true
