use Rattle.std.proofs.Common.{◌+◌, ◌-◌, ◌*◌}
use Rattle.document.specs.Books.{book_of}
use Rattle.walk.proofs.Goings.{Going}
use Rattle.walk.proofs.dump.Walk.+dump_mapping_dump_node_dump_sequence.Given as goal

abbrev pub decreases-dump_mapping : goal.decreases-dump_mapping
decreases-dump_mapping l = 2 * (257 - l.depth)

abbrev pub decreases-dump_node : goal.decreases-dump_node
decreases-dump_node l = 2 * (257 - l.depth) + 1

abbrev pub decreases-dump_sequence : goal.decreases-dump_sequence
decreases-dump_sequence l = 2 * (257 - l.depth)

abbrev pub invariant-dump_mapping-loop-key : goal.invariant-dump_mapping-loop-key
invariant-dump_mapping-loop-key l = Going (book_of l.d).nodes l.depth l.node (2 * l.key-index) l.initial.self l.self

abbrev pub invariant-dump_sequence-loop-item : goal.invariant-dump_sequence-loop-item
invariant-dump_sequence-loop-item l = Going (book_of l.d).nodes l.depth l.node l.item-index l.initial.self l.self
