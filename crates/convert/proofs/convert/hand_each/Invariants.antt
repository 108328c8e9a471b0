use Rattle.std.proofs.Common.{length}
use Rattle.convert.proofs.Going.{SoFar}
use Rattle.convert.proofs.convert.hand_each.Given as goal

abbrev pub invariant-loop-whole : goal.invariant-loop-whole
invariant-loop-whole g l = SoFar g.K.Sink.weight (g.S.Source.flow l.initial.source) (g.K.Sink.view l.initial.sink) l.events (g.S.Source.flow l.source) (g.K.Sink.view l.sink)

-- the events to come get fewer
abbrev pub decreases-loop-whole : goal.decreases-loop-whole
decreases-loop-whole g l = length (g.S.Source.flow l.source).coming.events
