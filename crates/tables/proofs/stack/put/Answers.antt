use Rattle.std.proofs.Common.{arith}
use Rattle.tables.proofs.Growing.{growing_more}
use Rattle.tables.proofs.stack.put.Goals as goal

pub loop-i-preserved : goal.loop-i-preserved
loop-i-preserved g c =
    growing_more c.args.table.now c.loop-i.table c.args.entries.now c.args.at c.loop-i.i c.index-entries-i.result c.index-entries-i.result
    (omega arith) (omega arith) c.index-entries-i.is c.loop-i.invariant
