use Rattle.std.proofs.Common.{◌+◌, ◌*◌, length, refl, ap, arith, rules, get_or, []}
use Rattle.std.proofs.lemmas.Result.{err_from_is_err_and}
use Rattle.model.specs.declared.NodeKind.TheVariants.{Sequence, Mapping}
use Rattle.document.specs.Books.{book_of}
use Rattle.walk.specs.Going.{state_of}
use Rattle.walk.proofs.Links.{link_at}
use Rattle.walk.proofs.Goings.{count_few, went_again, marked, went_leaf, can_open, opened_visited, going_none, going_more, opened, no_opening_here, no_opening_below, can_visit_child, end_few, pair_links, pair_done, links_paired}
use Rattle.walk.proofs.dump.Walk.+dump_mapping_dump_node_dump_sequence.Goals as goal

-- any node

pub dump_node-step-requires : goal.dump_node-step-requires
dump_node-step-requires t c = count_few (book_of c.args.d.now) c.args.self.now.counting.now c.args.self.now.count c.sound.ensures c.requires.few

pub dump_node-returns-then-self-place-ne0-clause-visited : goal.dump_node-returns-then-self-place-ne0-clause-visited
dump_node-returns-then-self-place-ne0-clause-visited t c =
    went_again (book_of c.args.d.now).nodes c.args.depth c.args.node (state_of c.args.self.now) (state_of c.step.new.self) c.requires.inside.low c.if-self-place-ne0.true c.step.ensures.stepped

pub dump_node-step-requires-in-Scalar : goal.dump_node-step-requires-in-Scalar
dump_node-step-requires-in-Scalar t c = count_few (book_of c.args.d.now) c.args.self.now.counting.now c.args.self.now.count c.sound.ensures c.requires.few

pub dump_node-returns-in-Scalar-clause-visited : goal.dump_node-returns-in-Scalar-clause-visited
dump_node-returns-in-Scalar-clause-visited t c =
    let g = (book_of c.args.d.now).nodes in
    let p = state_of c.args.self.now in
    went_leaf g c.args.depth c.args.node p (state_of c.step-in-Scalar.new.self) (marked g c.args.depth c.args.node p c.requires c.if-self-place-ne0.false) c.in-Scalar.ensures c.step-in-Scalar.ensures.stepped

pub dump_node-dump_sequence-requires : goal.dump_node-dump_sequence-requires
dump_node-dump_sequence-requires t c =
    let g = (book_of c.args.d.now).nodes in
    let p = state_of c.args.self.now in
    (search rules, can_open g Sequence c.args.depth c.args.node p c.requires (marked g c.args.depth c.args.node p c.requires c.if-self-place-ne0.false) refl c.in-Sequence.ensures)

pub dump_node-returns-in-Sequence-clause-visited : goal.dump_node-returns-in-Sequence-clause-visited
dump_node-returns-in-Sequence-clause-visited t c =
    let g = (book_of c.args.d.now).nodes in
    let p = state_of c.args.self.now in
    opened_visited g Sequence c.args.depth c.args.node p (state_of c.dump_sequence.new.self) (marked g c.args.depth c.args.node p c.requires c.if-self-place-ne0.false) refl c.in-Sequence.ensures
    c.dump_sequence.result c.dump_sequence.ensures.opened

pub dump_node-dump_mapping-requires : goal.dump_node-dump_mapping-requires
dump_node-dump_mapping-requires t c =
    let g = (book_of c.args.d.now).nodes in
    let p = state_of c.args.self.now in
    (search rules, can_open g Mapping c.args.depth c.args.node p c.requires (marked g c.args.depth c.args.node p c.requires c.if-self-place-ne0.false) refl c.in-Mapping.ensures)

pub dump_node-returns-in-Mapping-clause-visited : goal.dump_node-returns-in-Mapping-clause-visited
dump_node-returns-in-Mapping-clause-visited t c =
    let g = (book_of c.args.d.now).nodes in
    let p = state_of c.args.self.now in
    opened_visited g Mapping c.args.depth c.args.node p (state_of c.dump_mapping.new.self) (marked g c.args.depth c.args.node p c.requires c.if-self-place-ne0.false) refl c.in-Mapping.ensures
    c.dump_mapping.result c.dump_mapping.ensures.opened

-- a sequence

pub dump_sequence-returns-then-depth-ge-MAX_OPEN-clause-opened : goal.dump_sequence-returns-then-depth-ge-MAX_OPEN-clause-opened
dump_sequence-returns-then-depth-ge-MAX_OPEN-clause-opened t c =
    no_opening_here (book_of c.args.d.now).nodes Sequence c.args.depth c.args.node (state_of c.args.self.now) c.requires refl c.if-depth-ge-MAX_OPEN.true

pub dump_sequence-step-requires : goal.dump_sequence-step-requires
dump_sequence-step-requires t c = count_few (book_of c.args.d.now) c.args.self.now.counting.now c.args.self.now.count c.sound.ensures (omega (arith, c.requires.few))

pub dump_sequence-loop-item-init : goal.dump_sequence-loop-item-init
dump_sequence-loop-item-init t c = going_none (book_of c.args.d.now).nodes c.args.depth c.args.node c.step.new.self

pub dump_sequence-returns-in_err-dump_node-clause-opened : goal.dump_sequence-returns-in_err-dump_node-clause-opened
dump_sequence-returns-in_err-dump_node-clause-opened t c =
    let g = (book_of c.args.d.now).nodes in
    let ws = c.links_at-item-items.result.now in
    let i = c.loop-item.item-index in
    let e = err_from_is_err_and c.from_residual.result c.from_residual.ensures.1 in
    rw e.1
    (no_opening_below g Sequence c.args.depth c.args.node (state_of c.args.self.now) (state_of c.step.new.self) c.requires refl c.if-depth-ge-MAX_OPEN.false c.step.ensures.stepped
    i (get_or ws i 0) (state_of c.loop-item.self) c.loop-item.invariant.children (link_at g c.args.node ws i c.links_at-item-items.ensures c.loop-item-test.true) c.in_err-dump_node.ensures.visited)

pub dump_sequence-loop-item-preserved : goal.dump_sequence-loop-item-preserved
dump_sequence-loop-item-preserved t c =
    let g = (book_of c.args.d.now).nodes in
    let ws = c.links_at-item-items.result.now in
    let i = c.loop-item.item-index in
    going_more g c.args.depth c.args.node i (get_or ws i 0) c.step.new.self c.loop-item.self c.dump_node.new.self c.loop-item.invariant
    (link_at g c.args.node ws i c.links_at-item-items.ensures c.loop-item-test.true) c.in_ok-dump_node.ensures.visited c.in_ok-dump_node.ensures.tables

pub dump_sequence-step-requires-2 : goal.dump_sequence-step-requires-2
dump_sequence-step-requires-2 t c =
    let b = book_of c.args.d.now in
    count_few b c.loop-item.self.counting.now c.loop-item.self.count c.sound.ensures
    (end_few b.nodes Sequence c.args.depth c.args.node (state_of c.args.self.now) (state_of c.step.new.self) c.requires refl c.if-depth-ge-MAX_OPEN.false c.step.ensures.stepped
    c.loop-item.item-index (state_of c.loop-item.self) c.loop-item.invariant.children (omega (arith, ap length c.links_at-item-items.ensures.links, c.loop-item.auto.item-index-end)))

pub dump_sequence-returns-clause-opened : goal.dump_sequence-returns-clause-opened
dump_sequence-returns-clause-opened t c =
    opened (book_of c.args.d.now).nodes Sequence c.args.depth c.args.node (state_of c.args.self.now) (state_of c.step.new.self) c.requires refl c.if-depth-ge-MAX_OPEN.false c.step.ensures.stepped
    c.loop-item.item-index (state_of c.loop-item.self) (state_of c.step-2.new.self) c.loop-item.invariant.children
    (omega (arith, ap length c.links_at-item-items.ensures.links, c.loop-item.auto.item-index-end, c.loop-item-test.false)) c.step-2.ensures.stepped

-- a mapping

pub dump_mapping-returns-then-depth-ge-MAX_OPEN-clause-opened : goal.dump_mapping-returns-then-depth-ge-MAX_OPEN-clause-opened
dump_mapping-returns-then-depth-ge-MAX_OPEN-clause-opened t c =
    no_opening_here (book_of c.args.d.now).nodes Mapping c.args.depth c.args.node (state_of c.args.self.now) c.requires refl c.if-depth-ge-MAX_OPEN.true

pub dump_mapping-step-requires : goal.dump_mapping-step-requires
dump_mapping-step-requires t c = count_few (book_of c.args.d.now) c.args.self.now.counting.now c.args.self.now.count c.sound.ensures (omega (arith, c.requires.few))

pub dump_mapping-loop-key-init : goal.dump_mapping-loop-key-init
dump_mapping-loop-key-init t c = going_none (book_of c.args.d.now).nodes c.args.depth c.args.node c.step.new.self

pub dump_mapping-dump_node-requires : goal.dump_mapping-dump_node-requires
dump_mapping-dump_node-requires t c =
    let g = (book_of c.args.d.now).nodes in
    let i = c.loop-key.key-index in
    let ps = c.as_chunks.result.0.now in
    let pair = pair_links g c.args.node c.links_at.result.now ps i c.links_at.ensures c.as_chunks.ensures.front c.as_chunks.ensures.front_len c.loop-key-test.true in (
      search rules,
      can_visit_child g Mapping c.args.depth c.args.node (state_of c.args.self.now) (state_of c.step.new.self) c.requires refl c.if-depth-ge-MAX_OPEN.false c.step.ensures.stepped
          (2 * i) (get_or (get_or ps i []) 0 0) (state_of c.loop-key.self) c.loop-key.invariant.children pair.key c.loop-key.invariant.tables.nodes,
    )

pub dump_mapping-returns-in_err-dump_node-clause-opened : goal.dump_mapping-returns-in_err-dump_node-clause-opened
dump_mapping-returns-in_err-dump_node-clause-opened t c =
    let g = (book_of c.args.d.now).nodes in
    let i = c.loop-key.key-index in
    let ps = c.as_chunks.result.0.now in
    let pair = pair_links g c.args.node c.links_at.result.now ps i c.links_at.ensures c.as_chunks.ensures.front c.as_chunks.ensures.front_len c.loop-key-test.true in
    let e = err_from_is_err_and c.from_residual.result c.from_residual.ensures.1 in
    rw e.1
    (no_opening_below g Mapping c.args.depth c.args.node (state_of c.args.self.now) (state_of c.step.new.self) c.requires refl c.if-depth-ge-MAX_OPEN.false c.step.ensures.stepped
    (2 * i) (get_or (get_or ps i []) 0 0) (state_of c.loop-key.self) c.loop-key.invariant.children pair.key c.in_err-dump_node.ensures.visited)

pub dump_mapping-dump_node-requires-in-loop-key : goal.dump_mapping-dump_node-requires-in-loop-key
dump_mapping-dump_node-requires-in-loop-key t c =
    let g = (book_of c.args.d.now).nodes in
    let i = c.loop-key.key-index in
    let ps = c.as_chunks.result.0.now in
    let pair = pair_links g c.args.node c.links_at.result.now ps i c.links_at.ensures c.as_chunks.ensures.front c.as_chunks.ensures.front_len c.loop-key-test.true in
    let so = going_more g c.args.depth c.args.node (2 * i) (get_or (get_or ps i []) 0 0) c.step.new.self c.loop-key.self c.dump_node.new.self
    c.loop-key.invariant pair.key c.in_ok-dump_node.ensures.visited c.in_ok-dump_node.ensures.tables in (
      search rules,
      can_visit_child g Mapping c.args.depth c.args.node (state_of c.args.self.now) (state_of c.step.new.self) c.requires refl c.if-depth-ge-MAX_OPEN.false c.step.ensures.stepped
          (2 * i + 1) (get_or (get_or ps i []) 1 0) (state_of c.dump_node.new.self) so.children pair.value so.tables.nodes,
    )

pub dump_mapping-returns-in_err-dump_node-2-clause-opened : goal.dump_mapping-returns-in_err-dump_node-2-clause-opened
dump_mapping-returns-in_err-dump_node-2-clause-opened t c =
    let g = (book_of c.args.d.now).nodes in
    let i = c.loop-key.key-index in
    let ps = c.as_chunks.result.0.now in
    let pair = pair_links g c.args.node c.links_at.result.now ps i c.links_at.ensures c.as_chunks.ensures.front c.as_chunks.ensures.front_len c.loop-key-test.true in
    let so = going_more g c.args.depth c.args.node (2 * i) (get_or (get_or ps i []) 0 0) c.step.new.self c.loop-key.self c.dump_node.new.self
    c.loop-key.invariant pair.key c.in_ok-dump_node.ensures.visited c.in_ok-dump_node.ensures.tables in
    let e = err_from_is_err_and c.from_residual-in_err-dump_node-2.result c.from_residual-in_err-dump_node-2.ensures.1 in
    rw e.1
    (no_opening_below g Mapping c.args.depth c.args.node (state_of c.args.self.now) (state_of c.step.new.self) c.requires refl c.if-depth-ge-MAX_OPEN.false c.step.ensures.stepped
    (2 * i + 1) (get_or (get_or ps i []) 1 0) (state_of c.dump_node.new.self) so.children pair.value c.in_err-dump_node-2.ensures.visited)

pub dump_mapping-loop-key-preserved : goal.dump_mapping-loop-key-preserved
dump_mapping-loop-key-preserved t c =
    let g = (book_of c.args.d.now).nodes in
    let i = c.loop-key.key-index in
    let ps = c.as_chunks.result.0.now in
    let pair = pair_links g c.args.node c.links_at.result.now ps i c.links_at.ensures c.as_chunks.ensures.front c.as_chunks.ensures.front_len c.loop-key-test.true in
    let so = going_more g c.args.depth c.args.node (2 * i) (get_or (get_or ps i []) 0 0) c.step.new.self c.loop-key.self c.dump_node.new.self
    c.loop-key.invariant pair.key c.in_ok-dump_node.ensures.visited c.in_ok-dump_node.ensures.tables in
    pair_done g c.args.depth c.args.node i c.step.new.self c.dump_node-in-loop-key.new.self
    (going_more g c.args.depth c.args.node (2 * i + 1) (get_or (get_or ps i []) 1 0) c.step.new.self c.dump_node.new.self c.dump_node-in-loop-key.new.self
    so pair.value c.in_ok-dump_node-2.ensures.visited c.in_ok-dump_node-2.ensures.tables)

pub dump_mapping-step-requires-2 : goal.dump_mapping-step-requires-2
dump_mapping-step-requires-2 t c =
    let b = book_of c.args.d.now in
    count_few b c.loop-key.self.counting.now c.loop-key.self.count c.sound.ensures
    (end_few b.nodes Mapping c.args.depth c.args.node (state_of c.args.self.now) (state_of c.step.new.self) c.requires refl c.if-depth-ge-MAX_OPEN.false c.step.ensures.stepped
    (2 * c.loop-key.key-index) (state_of c.loop-key.self) c.loop-key.invariant.children
    (omega (arith, ap length c.links_at.ensures.links, c.as_chunks.ensures.front_len, c.loop-key.auto.key-index-end)))

pub dump_mapping-returns-clause-opened : goal.dump_mapping-returns-clause-opened
dump_mapping-returns-clause-opened t c =
    let b = book_of c.args.d.now in
    opened b.nodes Mapping c.args.depth c.args.node (state_of c.args.self.now) (state_of c.step.new.self) c.requires refl c.if-depth-ge-MAX_OPEN.false c.step.ensures.stepped
    (2 * c.loop-key.key-index) (state_of c.loop-key.self) (state_of c.step-2.new.self) c.loop-key.invariant.children
    (omega (
      arith,
      ap length c.links_at.ensures.links,
      c.as_chunks.ensures.front_len,
      c.loop-key.auto.key-index-end,
      c.loop-key-test.false,
      links_paired b c.args.depth c.args.node (state_of c.args.self.now) c.sound.ensures c.requires,
    )) c.step-2.ensures.stepped
