use Rattle.std.proofs.Common.{refl, arith}
use Rattle.model.specs.Reading.{read_all}
use Rattle.model.proofs.Readings.{whole_written, no_fault}
use Rattle.packed.specs.Packed.{packed_front}
use Rattle.packed.specs.Writes.{held}
use Rattle.packed.specs.Lawful.{packed_format}
use Rattle.packed.proofs.writer.PackedWriter.finish.Goals as goal

pub returns : goal.returns
returns c =
    let w = c.args.self in
    record {
      written = whole_written packed_format 0 0 0 (held w) (omega arith) (no_fault (read_all packed_front (held w)).after w.whole);
      reads_back = refl;
      nothing_after = w.whole;
    }
