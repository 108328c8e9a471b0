use Rattle.std.proofs.Common.{refl}
use Rattle.runs.proofs.Lawful.{law}
use Rattle.dumper.proofs.writer.Writer.new.Goals as goal

pub returns-clause-law : goal.returns-clause-law
returns-clause-law g c empty = law g.S.Sink.weight _ (record { not_opened = refl; not_closed = refl; not_spoilt = refl; nothing_taken = empty })
