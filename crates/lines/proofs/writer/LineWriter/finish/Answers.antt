use Rattle.std.proofs.Common.{refl, arith}
use Rattle.model.specs.Reading.{read_all}
use Rattle.model.proofs.Readings.{whole_written, no_fault}
use Rattle.lines.specs.Line.{line_front}
use Rattle.lines.specs.Writes.{held}
use Rattle.lines.specs.Lawful.{lines_format}
use Rattle.lines.proofs.writer.LineWriter.finish.Goals as goal

pub returns : goal.returns
returns c =
    let w = c.args.self in
    record {
      written = whole_written lines_format 0 0 0 (held w) (omega arith) (no_fault (read_all line_front (held w)).after w.whole);
      reads_back = refl;
      nothing_after = w.whole;
    }
