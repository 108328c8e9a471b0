use Rattle.std.proofs.Common.{◌+◌, length, ap, ◌∙◌, arith}
use Rattle.composer.specs.State.{Spaces}
use Rattle.composer.specs.Steps.{value_place}
use Rattle.composer.proofs.Doing.{noded, surely_grown, surely_topped}
use Rattle.composer.proofs.stacks.Tables.load_node.Goals as goal

pub returns : goal.returns
returns c =
    let t = c.args.self.now in
    let k = c.args.kind in
    let tag_long = length c.args.tag.now in
    let value_long = length c.args.value.now in
    let held = c.len.ensures.held in
    let place = c.len-place.ensures.held in
    let node_space = ap (λ (s : Spaces). s.nodes) c.spaces-spaces.ensures in
    let text_space = ap (λ (s : Spaces). s.text) c.spaces-spaces.ensures in
    noded t k c.args.style c.args.tag.now c.args.value.now c.args.start c.args.end _ c.push.new.self c.extend.new.self c.extend-2.new.self _ _ _ _
    (omega arith) (omega arith)
    (λ i. record {
      kind = c.from.ensures i;
      style = c.args.style;
      tag_length = tag_long;
      value_length = value_long;
      filler = 0;
      tag_start = place i;
      value_start = (c.value_place.ensures ∙ (λ j. value_place k (place j + tag_long))) i;
      first_link = 0;
      link_count = 0;
      start = c.args.start;
      end = c.args.end;
    })
    (surely_grown t.text c.extend.new.self _ c.extend.result c.unwrap.result c.unwrap.ensures c.extend.ensures)
    (surely_grown c.extend.new.self c.extend-2.new.self _ c.extend-2.result c.unwrap-2.result c.unwrap-2.ensures c.extend-2.ensures)
    (surely_topped t.nodes c.push.new.self _ c.push.result c.unwrap-3.result c.unwrap-3.ensures c.push.ensures)
