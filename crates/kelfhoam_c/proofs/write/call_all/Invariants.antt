use Rattle.std.proofs.Common.{◌≡◌, take, drop}
use Rattle.dumper.specs.States.{state_of}
use Rattle.kelfhoam_c.specs.Writing.{Chain, lent_of}
use Rattle.kelfhoam_c.proofs.write.call_all.Given as goal

-- the first i calls were made
abbrev pub invariant-loop-i : goal.invariant-loop-i
invariant-loop-i g l = record {
  chain : Chain g.K.Sink.weight (lent_of l.initial.lent) (state_of g.K.Sink.view l.initial.writer) (take l.i l.calls) (take l.i l.told) (state_of g.K.Sink.view l.writer);
  rest : drop l.i l.told ≡ drop l.i l.initial.told;
  same : lent_of l.lent ≡ lent_of l.initial.lent;
}
