use Rattle.std.proofs.Common.{◌≡◌, ℕ, suc, ◌+◌, List, ◌∷◌, get_or, drop, subst, arith}
use Rattle.document.specs.Books.{book_of}
use Rattle.walk.proofs.Numbers.{SoFar, root_links, so_far_none, so_far_more, countable}
use Rattle.walk.proofs.Links.{next_link}
use Rattle.walk.proofs.count.anchor_node.Goals as goal

pub anchor_node_sub-requires : goal.anchor_node_sub-requires
anchor_node_sub-requires c =
    let g = (book_of c.args.d.now).nodes in
    countable g (1 ∷ root_links g) 0 c.args.counting.now c.args.last_anchor_id.now 1 (so_far_none g c.args.counting.now c.args.last_anchor_id.now c.requires)
    (omega arith) (omega (arith, c.requires.some, c.requires.room)) (omega arith)

pub loop-child-init : goal.loop-child-init
loop-child-init c =
    let g = (book_of c.args.d.now).nodes in
    let t = c.args.counting.now in
    let n = c.args.last_anchor_id.now in
    let start = so_far_none g t n c.requires in
    so_far_more g 1 (root_links g) 0 t c.anchor_node_sub.new.counting n c.anchor_node_sub.new.last_anchor_id start
    (countable g (1 ∷ root_links g) 0 t n 1 start (omega arith) (omega (arith, c.requires.some, c.requires.room)) (omega arith))
    c.anchor_node_sub.ensures

pub anchor_node_sub-requires-in-loop-child : goal.anchor_node_sub-requires-in-loop-child
anchor_node_sub-requires-in-loop-child c =
    let g = (book_of c.args.d.now).nodes in
    let i = c.loop-child.child-index in
    let w = get_or c.links_at-child-items.result.now i 0 in
    let inside = c.links_at-child-items.ensures.inside i c.loop-child-test.true in
    countable g (drop i (root_links g)) (i + 1) c.loop-child.counting c.loop-child.last_anchor_id w c.loop-child.invariant
    inside.low (omega (arith, inside.high, c.requires.room, c.loop-child.auto.counting, c.anchor_node_sub.auto.counting)) (omega (arith, c.links_at-child-items.ensures.few))

pub loop-child-preserved : goal.loop-child-preserved
loop-child-preserved c =
    let g = (book_of c.args.d.now).nodes in
    let i = c.loop-child.child-index in
    let ws = c.links_at-child-items.result.now in
    let w = get_or ws i 0 in
    let t = c.loop-child.counting in
    let n = c.loop-child.last_anchor_id in
    let s : suc (i + 1) ≡ (i + 1) + 1 = omega arith in
    let past = c.loop-child.invariant in
    let inside = c.links_at-child-items.ensures.inside i c.loop-child-test.true in
    let can = countable g (drop i (root_links g)) (i + 1) t n w past
    inside.low (omega (arith, inside.high, c.requires.room, c.loop-child.auto.counting, c.anchor_node_sub.auto.counting)) (omega (arith, c.links_at-child-items.ensures.few)) in
    let here : SoFar g (w ∷ drop (i + 1) (root_links g)) (i + 1) t n = subst (λ (xs : List ℕ). SoFar g xs (i + 1) t n) (next_link g ws i c.links_at-child-items.ensures c.loop-child-test.true) past in
    subst (λ (k : ℕ). SoFar g (drop (i + 1) (root_links g)) k c.anchor_node_sub-in-loop-child.new.counting c.anchor_node_sub-in-loop-child.new.last_anchor_id) s
    (so_far_more g w (drop (i + 1) (root_links g)) (i + 1) t c.anchor_node_sub-in-loop-child.new.counting n c.anchor_node_sub-in-loop-child.new.last_anchor_id here can c.anchor_node_sub-in-loop-child.ensures)
