-- What a packed reader means.
use Rattle.std.specs.Prelude.{◌≡◌, ℕ, List, None}
use Rattle.std.specs.Option.{option_map}
use Rattle.model.specs.Reading.{read_all, events_of, fault_number, write_all}
use Rattle.model.proofs.Readings.{coming_allowed}
use Rattle.yaml.specs.Shapes.{ev_of}
use Rattle.yaml.specs.Flow.{Flow, Sound}
use Rattle.yaml.specs.Places.{coming_at}
use Rattle.packed.specs.declared.reader.PackedReader.{PackedReader}
use Rattle.packed.specs.Packed.{packed_of, packed_front}
use Rattle.packed.specs.Lawful.{packed_format}

abbrev pub flow_of : PackedReader → Flow
flow_of r = record { latest = option_map ev_of r.latest; coming = coming_at packed_front r.input }

pub sound : (r : PackedReader) → Sound (flow_of r)
sound r = coming_allowed packed_format 0 r.input.place r.input.count r.input.rest.now

-- a new reader: no event yet, and all of the input to come
pub record Made (bytes : List ℕ) (r : PackedReader) : Type 0 where
  pub fresh : (flow_of r).latest ≡ None
  pub all : (flow_of r).coming ≡ read_all packed_front bytes

-- what is read to its end is what the packed writer writes for its events, byte for byte
abbrev pub WrittenBack : List ℕ → Type 0
WrittenBack bytes = fault_number (read_all packed_front bytes).after ≡ 0 → write_all packed_of (events_of (read_all packed_front bytes)) ≡ bytes
