use Rattle.std.proofs.Common.{length, sym, ap, arith}
use Rattle.std.proofs.lemmas.List.{length-append}
use Rattle.yaml.specs.Shapes.{ev_of}
use Rattle.lines.specs.Line.{line_of}
use Rattle.lines.proofs.Comparing.{begins, not_allowed, other}
use Rattle.lines.proofs.compare.line_within.Goals as goal

pub returns-then-not-allowed : goal.returns-then-not-allowed
returns-then-not-allowed c = not_allowed (ev_of c.args.e.now) c.args.bytes.now (sym c.if-not-allowed.ensures)

pub returns-in_err-left : goal.returns-in_err-left
returns-in_err-left c = let t = rw c.in_err-left.was at c.write_line.ensures in rw c.from_residual.ensures (other (ev_of c.args.e.now) c.args.bytes.now t.wrote)

pub overflow_sub-result : goal.overflow_sub-result
overflow_sub-result c = let t = rw c.in_ok-left.was at c.write_line.ensures in omega (arith, ap length t.wrote, length-append (line_of (ev_of c.args.e.now)) c.in_ok-left.left.now)

pub returns : goal.returns
returns c =
    let e = ev_of c.args.e.now in
    let t = rw c.in_ok-left.was at c.write_line.ensures in
    (begins e c.args.bytes.now c.in_ok-left.left.now (sym c.if-not-allowed.ensures) t.wrote, omega (arith, ap length t.wrote, length-append (line_of e) c.in_ok-left.left.now))
