use Rattle.std.proofs.Common.{◌≡◌, take, replicate}
use Rattle.tables.proofs.empty.clear.Given as goal

-- the entries passed are empty
abbrev pub invariant-loop-entry : goal.invariant-loop-entry
invariant-loop-entry g l = take l.entry-index l.table ≡ replicate l.entry-index g.T.Empty.empty
