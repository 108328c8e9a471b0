use Rattle.tables.specs.Growing.{Growing}
use Rattle.tables.proofs.stack.put.Given as goal

-- i of the entries are put
abbrev pub invariant-loop-i : goal.invariant-loop-i
invariant-loop-i g l = Growing l.initial.table l.table l.entries l.at l.i
