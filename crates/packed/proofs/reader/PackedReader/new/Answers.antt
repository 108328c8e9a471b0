use Rattle.std.proofs.Common.{sym, arith}
use Rattle.model.specs.Reading.{read_all}
use Rattle.model.proofs.Readings.{whole_written, no_fault}
use Rattle.packed.specs.Packed.{packed_front}
use Rattle.packed.specs.Lawful.{packed_format}
use Rattle.packed.proofs.reader.PackedReader.new.Goals as goal

pub returns-clause-written_back : goal.returns-clause-written_back
returns-clause-written_back c = λ whole. sym (whole_written packed_format 0 0 0 c.args.bytes.now (omega arith) (no_fault (read_all packed_front c.args.bytes.now).after whole))
