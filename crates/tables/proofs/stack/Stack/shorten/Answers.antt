use Rattle.std.proofs.Common.{◌≡◌, ◌-◌, ◌++◌, length, take, drop, replicate, sym, ap, ◌∙◌, arith}
use Rattle.std.proofs.lemmas.List.{length-take-le}
use Rattle.tables.proofs.Growing.{emptied_more, emptied_held, emptied_past}
use Rattle.tables.proofs.stack.Stack.shorten.Goals as goal

pub loop-place-preserved : goal.loop-place-preserved
loop-place-preserved g c = (
  emptied_more g.T.Empty.empty c.args.self.now.items.now c.loop-place.self.items.now c.args.n c.loop-place.place c.none.result
      (omega arith) (omega arith) c.none.ensures c.loop-place.invariant.0,
  c.loop-place.invariant.1,
)

pub returns-after-loop-place : goal.returns-after-loop-place
returns-after-loop-place g c =
    let e = g.T.Empty.empty in
    let xs = c.args.self.now.items.now in
    let ys = c.loop-place.self.items.now in
    let n = c.args.n in
    let held = c.args.self.now.count in
    let p = c.loop-place.place in
    let done = c.loop-place.invariant.0 in
    let end : p ≡ held = omega arith in
    let counted : length (take held xs) ≡ held = length-take-le held xs c.args.self.now.within in
    record {
      holds = emptied_held e xs ys n p (omega arith) (omega arith) done ∙ ap (λ j. take n (take j xs)) end;
      past = emptied_past e xs ys n p (omega arith) (omega arith) done ∙ ap (λ j. replicate (j - n) e ++ drop j xs) end
          ∙ ap (λ j. replicate (j - n) e ++ drop held xs) (sym counted);
      over = record { table = c.loop-place.invariant.1; room = done.long };
    }
