use Rattle.std.proofs.Common.{◌+◌, drop}
use Rattle.document.specs.Books.{book_of}
use Rattle.walk.proofs.Numbers.{SoFar, root_links}
use Rattle.walk.proofs.count.anchor_node.Given as goal

abbrev pub invariant-loop-child : goal.invariant-loop-child
invariant-loop-child l = SoFar (book_of l.d).nodes (drop l.child-index (root_links (book_of l.d).nodes)) (l.child-index + 1) l.counting l.last_anchor_id
