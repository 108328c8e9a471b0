use Rattle.std.proofs.Common.{sym, refl, arith}
use Rattle.model.specs.Reading.{read_all}
use Rattle.model.proofs.Readings.{whole_written, no_fault}
use Rattle.yaml.proofs.Gives.{all_comes}
use Rattle.lines.specs.Line.{line_front}
use Rattle.lines.specs.Lawful.{lines_format, refuses as refused}
use Rattle.lines.proofs.reader.LineReader.new.Goals as goal

pub returns : goal.returns
returns c = record {
  made = record { fresh = refl; all = all_comes line_front c.args.bytes.now c.new.result c.new.ensures };
  written_back = λ whole. sym (whole_written lines_format 0 0 0 c.args.bytes.now (omega arith) (no_fault (read_all line_front c.args.bytes.now).after whole));
  refuses = refused;
}
