use Rattle.std.proofs.Common.{sym, ap, ◌∙◌, arith, rules}
use Rattle.composer.specs.Names.{found, entry_of}
use Rattle.composer.specs.State.{Spaces}
use Rattle.composer.proofs.Doing.{registered, surely_topped}
use Rattle.composer.proofs.stacks.Tables.register_anchor.Goals as goal

pub returns : goal.returns
returns c =
    let t = c.args.self.now in
    let p = c.args.placed.now in
    let bytes = p.event.anchor.now in
    let held = c.len.ensures.held in
    let space = ap (λ (s : Spaces). s.anchors) c.spaces-spaces.ensures in
    registered t bytes p.start c.anchor_entry.result c.push.new.self _ _ _ _
    (search rules) (ap (λ l. found l bytes) (sym c.entries.ensures) ∙ sym c.in_default.ensures) (omega arith)
    (c.anchor_entry.ensures ∙ ap (entry_of bytes) c.len-newest.ensures.held)
    (surely_topped t.anchors c.push.new.self _ c.push.result c.unwrap.result c.unwrap.ensures c.push.ensures)
