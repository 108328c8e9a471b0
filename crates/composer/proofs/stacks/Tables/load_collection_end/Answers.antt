use Rattle.std.proofs.Common.{◌-◌, length, drop, ap, ◌∙◌, subst}
use Rattle.std.proofs.lemmas.List.{take_rest}
use Rattle.tables.specs.Stacks.{Grown}
use Rattle.composer.proofs.Doing.{closed, surely_grown}
use Rattle.composer.proofs.stacks.Tables.load_collection_end.Goals as goal

pub returns : goal.returns
returns c =
    let t = c.args.self.now in
    let f = c.in-Some.frame in
    let held = c.entries-waiting.result.now in
    let same = c.entries-waiting.ensures in
    let from = length held - f.children in
    let long = ap length same in
    closed t f c.args.end c.len-first.result from c.link_node.new.nodes c.extend.new.self c.shorten.new.self c.pop.new.self _ _ _ _
    c.in-Some.ensures c.len-first.ensures.held (ap (λ n. n - f.children) long)
    (subst (λ xs. Grown t.links xs c.extend.new.self) (take_rest held from ∙ ap (drop from) same) (surely_grown t.links c.extend.new.self _ c.extend.result c.unwrap.result c.unwrap.ensures c.extend.ensures))
    c.shorten.ensures c.link_node.ensures c.pop.ensures
