use Rattle.std.proofs.Common.{◌≡◌, ◌+◌, ◌≤◌, length, take, sym, refl, ap, ◌∙◌, arith}
use Rattle.model.specs.Reading.{read_all, fault_number}
use Rattle.yaml.proofs.Puts.{length_puts, take_puts_before, take_puts}
use Rattle.packed.specs.Packed.{packed_front}
use Rattle.packed.proofs.writer.PackedWriter.put.Goals as goal

pub invariant_of-self : goal.invariant_of-self
invariant_of-self c =
    let w = c.args.self.now in
    let stored = c.store.ensures in
    let long = ap length stored ∙ length_puts w.out.now c.args.at c.args.bytes.now in
    record {
      inside = omega (arith, w.inside, long);
      whole = ap (λ l. fault_number (read_all packed_front l).after) (ap (take w.used) stored ∙ take_puts_before w.used w.out.now c.args.at c.args.bytes.now c.requires.behind) ∙ w.whole;
    }

pub returns : goal.returns
returns c =
    let out = c.args.self.now.out.now in
    let at = c.args.at in
    let bs = c.args.bytes.now in
    let stored = c.store.ensures in
    record {
      slice = stored;
      place = refl;
      front = ap (take (at + length bs)) stored ∙ take_puts out at bs (at + length bs) refl c.requires.fits;
      used = refl;
      length_same = ap length stored ∙ length_puts out at bs;
      same = refl;
    }
