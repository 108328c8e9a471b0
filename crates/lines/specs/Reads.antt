-- What a line reader means.
use Rattle.std.specs.Prelude.{◌≡◌, ℕ, List, None}
use Rattle.std.specs.Option.{option_map}
use Rattle.model.specs.Reading.{read_all, events_of, fault_number, write_all}
use Rattle.model.proofs.Readings.{coming_allowed}
use Rattle.yaml.specs.Flow.{Flow, Sound}
use Rattle.yaml.specs.Places.{coming_at}
use Rattle.lines.specs.declared.reader.LineReader.{LineReader}
use Rattle.lines.specs.Line.{line_of, line_front}
use Rattle.lines.specs.Lawful.{lines_format}
use Rattle.lines.specs.Telling.{ev_told}

abbrev pub flow_of : LineReader → Flow
flow_of r = record { latest = option_map ev_told r.latest; coming = coming_at line_front r.input }

pub sound : (r : LineReader) → Sound (flow_of r)
sound r = coming_allowed lines_format 0 r.input.place r.input.count r.input.rest.now

-- a new reader: no event yet, and all of the input to come
pub record Made (bytes : List ℕ) (r : LineReader) : Type 0 where
  pub fresh : (flow_of r).latest ≡ None
  pub all : (flow_of r).coming ≡ read_all line_front bytes

-- what is read to its end is what the line writer writes for its events, byte for byte
abbrev pub WrittenBack : List ℕ → Type 0
WrittenBack bytes = fault_number (read_all line_front bytes).after ≡ 0 → write_all line_of (events_of (read_all line_front bytes)) ≡ bytes
