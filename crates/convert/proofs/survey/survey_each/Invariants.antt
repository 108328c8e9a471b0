use Rattle.std.proofs.Common.{length}
use Rattle.convert.proofs.Counting.{CountedSoFar}
use Rattle.convert.proofs.survey.survey_each.Given as goal

abbrev pub invariant-loop-whole : goal.invariant-loop-whole
invariant-loop-whole g l = CountedSoFar g.K.Sink.weight (g.S.Source.flow l.initial.source) l.tally.survey (g.S.Source.flow l.source)

-- the events to come get fewer
abbrev pub decreases-loop-whole : goal.decreases-loop-whole
decreases-loop-whole g l = length (g.S.Source.flow l.source).coming.events
