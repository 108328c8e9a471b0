use Rattle.std.proofs.Common.{refl, arith, length-set}
use Rattle.std.proofs.lemmas.List.{drop-set-lt, length-take}
use Rattle.std.proofs.Math.Seq.{take-set-lt}
use Rattle.tables.proofs.stack.Stack.replace.Goals as goal

pub returns : goal.returns
returns g c =
    let n = c.args.self.now.count in
    let xs = c.args.self.now.items.now in
    let i = c.args.i in
    let y = c.args.entry in
    let held = length-take n xs in
    record {
      there = omega arith;
      holds = take-set-lt n xs i y (omega arith);
      past = drop-set-lt n xs i y (omega arith);
      over = record { table = refl; room = length-set xs i y };
    }
