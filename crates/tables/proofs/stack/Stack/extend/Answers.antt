use Rattle.std.proofs.Common.{◌++◌, length, take, refl, sym, ap, ◌∙◌, arith}
use Rattle.std.proofs.lemmas.List.{length-take, take_all, drop-drop}
use Rattle.tables.proofs.stack.Stack.extend.Goals as goal

pub returns : goal.returns
returns g c =
    let n = c.args.self.now.count in
    let xs = c.args.self.now.items.now in
    let es = c.args.entries.now in
    let held = length-take n xs in
    let grown = c.put.ensures in
    record {
      there_was_room = omega arith;
      holds = grown.front ∙ ap (λ ys. take n xs ++ ys) (take_all (length es) es (omega arith));
      past = grown.rest ∙ sym (drop-drop (length es) n xs);
      over = record { table = refl; room = grown.long };
    }
