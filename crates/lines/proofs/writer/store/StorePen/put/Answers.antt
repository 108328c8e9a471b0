use Rattle.std.proofs.Common.{◌+◌, ◌-◌, length, refl, rules, arith}
use Rattle.std.proofs.lemmas.Slice.{overwrites}
use Rattle.yaml.specs.Puts.{puts_mid}
use Rattle.lines.proofs.writer.store.StorePen.put.Goals as goal

pub returns-clause-wrote : goal.returns-clause-wrote
returns-clause-wrote c =
    let w = c.args.self.now in
    let bs = c.args.bytes.now in record {
      slice = puts_mid w.out.now c.copy_from_slice.new.self bs w.at (w.at + length bs - w.at) c.copy_from_slice.ensures.after (omega arith) (omega (arith, w.inside));
      place = refl;
      front = search (rules, overwrites);
      length_same = search (rules, overwrites);
      same = refl;
    }
