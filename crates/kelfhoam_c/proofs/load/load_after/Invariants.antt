use Rattle.std.proofs.Common.{◌≡◌, ◌-◌}
use Rattle.composer.specs.Holding.{lengths_of}
use Rattle.kelfhoam_c.specs.Loading.{after_documents}
use Rattle.kelfhoam_c.proofs.load.load_after.Given as goal

-- the load after the documents still to be passed over is the load after all of them
abbrev pub invariant-loop-passed : goal.invariant-loop-passed
invariant-loop-passed g l =
    (after_documents (l.skip - l.passed) (lengths_of l.tables) l.loader.phase (g.S.Source.flow l.loader.source)
    ≡ after_documents l.skip (lengths_of l.initial.tables) l.initial.loader.phase (g.S.Source.flow l.initial.loader.source))
    × (lengths_of l.tables ≡ lengths_of l.initial.tables)
