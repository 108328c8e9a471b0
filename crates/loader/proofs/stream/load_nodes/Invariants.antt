use Rattle.std.proofs.Common.{length}
use Rattle.loader.specs.Loads.{start_marked}
use Rattle.loader.proofs.Running.{Going}
use Rattle.loader.proofs.stream.load_nodes.Given as goal

-- the run from here is the run from the start
abbrev pub invariant-loop-whole : goal.invariant-loop-whole
invariant-loop-whole g l = Going (start_marked l.begin) (g.S.Source.flow l.initial.source) l.initial.tables (g.S.Source.flow l.source) l.tables

-- the events to come get fewer
abbrev pub decreases-loop-whole : goal.decreases-loop-whole
decreases-loop-whole g l = length (g.S.Source.flow l.source).coming.events
