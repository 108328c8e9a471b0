use Rattle.std.proofs.Common.{ap, arith}
use Rattle.composer.specs.State.{Spaces}
use Rattle.composer.proofs.Doing.{added, surely_topped}
use Rattle.composer.proofs.stacks.Tables.load_node_add.Goals as goal

pub returns : goal.returns
returns c =
    let t = c.args.self.now in
    let open_ones = c.len.ensures.are_open in
    let waiting = c.len-waiting.ensures.held in
    let placed = c.len-placed.ensures.held in
    let wait_space = ap (λ (s : Spaces). s.waiting) c.spaces-spaces.ensures in
    let link_space = ap (λ (s : Spaces). s.links) c.spaces-spaces.ensures in
    added t c.args.start c.args.number c.push.new.self c.count_child.new.self _ _ _ _
    (omega arith) (omega arith) (omega arith) (surely_topped t.waiting c.push.new.self _ c.push.result c.unwrap.result c.unwrap.ensures c.push.ensures) c.count_child.ensures
