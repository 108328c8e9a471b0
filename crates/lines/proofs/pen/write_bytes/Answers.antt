use Rattle.std.proofs.Common.{get_or, take, length, sym, ap, subst, arith}
use Rattle.std.proofs.lemmas.List.{take_all, length-append}
use Rattle.lines.specs.Line.{escape, escape_byte}
use Rattle.lines.proofs.Escaping.{escape_more, next_fits}
use Rattle.lines.proofs.pen.write_bytes.Goals as goal

pub loop-b-init : goal.loop-b-init
loop-b-init g c = record { wrote = g.P.Pen.nothing _; room = omega arith }

pub write_byte-requires : goal.write_byte-requires
write_byte-requires g c = next_fits c.args.text.now c.loop-b.b-index (g.P.Pen.room c.loop-b.pen) c.loop-b-test.true (omega (arith, c.loop-b.invariant.room))

pub loop-b-preserved : goal.loop-b-preserved
loop-b-preserved g c =
    let i = c.loop-b.b-index in
    let bs = c.args.text.now in
    let m = escape_more bs i c.loop-b-test.true in record {
      wrote = subst (λ xs. g.P.Pen.wrote c.args.pen.now xs c.write_byte.new.pen) (sym m) (g.P.Pen.onward _ _ _ _ _ c.loop-b.invariant.wrote c.write_byte.ensures.wrote);
      room = omega (arith, c.loop-b.invariant.room, c.write_byte.ensures.room, ap length m, length-append (escape (take i bs)) (escape_byte (get_or bs i 0)));
    }

pub returns-clause-wrote : goal.returns-clause-wrote
returns-clause-wrote g c = subst (λ xs. g.P.Pen.wrote c.args.pen.now (escape xs) c.loop-b.pen) (take_all c.loop-b.b-index c.args.text.now c.loop-b-test.false) c.loop-b.invariant.wrote

pub returns-clause-room : goal.returns-clause-room
returns-clause-room g c = omega (arith, c.loop-b.invariant.room, ap (λ xs. length (escape xs)) (take_all c.loop-b.b-index c.args.text.now c.loop-b-test.false))
