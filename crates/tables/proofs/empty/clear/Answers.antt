use Rattle.std.proofs.Common.{◌≡◌, length, arith}
use Rattle.std.proofs.lemmas.List.{take_more_set, take_all, replicate_more}
use Rattle.tables.proofs.empty.clear.Goals as goal

pub loop-entry-preserved : goal.loop-entry-preserved
loop-entry-preserved g c =
    let i = c.loop-entry.entry-index in
    let more = take_more_set c.loop-entry.table i c.none.result (omega arith) in
    let past = c.loop-entry.invariant in
    let longer = replicate_more i g.T.Empty.empty in
    cc

pub returns : goal.returns
returns g c =
    let i = c.loop-entry.entry-index in
    let long : i ≡ length c.args.table.now = omega arith in
    let all = take_all i c.loop-entry.table (omega arith) in
    let past = c.loop-entry.invariant in
    cc
