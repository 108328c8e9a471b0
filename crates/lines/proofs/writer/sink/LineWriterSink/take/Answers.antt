use Rattle.std.proofs.Common.{take, sym, ◌∙◌, arith}
use Rattle.yaml.specs.Shapes.{ev_of}
use Rattle.yaml.proofs.Takes.{sized, taken_more}
use Rattle.lines.specs.Pens.{weight_of}
use Rattle.lines.specs.Writes.{held}
use Rattle.lines.specs.Lawful.{lines_format}
use Rattle.lines.proofs.writer.sink.LineWriterSink.take.Goals as goal

pub invariant_of-self : goal.invariant_of-self
invariant_of-self c =
    let w = c.args.self.now in
    let e = ev_of c.args.e.now in
    let size = sized weight_of e c.in_ok-fitting.field-0 (sym c.in_ok-fitting.ensures.0 ∙ c.size.ensures) in
    let out = c.store_line-self.new.out in
    record {
      inside = omega (arith, size.1, w.inside, c.in_ok-fitting.ensures.1, c.store_line-self.auto.out);
      whole = (taken_more lines_format (held w) (take c.store_line-self.result out) e w.whole size.0 c.store_line-self.ensures.front).1;
    }

pub returns : goal.returns
returns c =
    let w = c.args.self.now in
    let e = ev_of c.args.e.now in
    let size = sized weight_of e c.in_ok-fitting.field-0 (sym c.in_ok-fitting.ensures.0 ∙ c.size.ensures) in
    let out = c.store_line-self.new.out in
    record {
      was_allowed = size.0;
      fitted = omega (arith, size.1);
      appended = (taken_more lines_format (held w) (take c.store_line-self.result out) e w.whole size.0 c.store_line-self.ensures.front).0;
      fallen = omega (arith, size.1, w.inside, c.store_line-self.auto.out);
    }
