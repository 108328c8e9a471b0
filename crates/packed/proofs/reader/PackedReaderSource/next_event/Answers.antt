use Rattle.std.proofs.Common.{◌≡◌, sym}
use Rattle.std.specs.Option.{option_map}
use Rattle.model.specs.Reading.{nothing, event}
use Rattle.yaml.specs.Shapes.{ev_of}
use Rattle.yaml.proofs.Gives.{gave_event, gave_nothing, gave_fault}
use Rattle.packed.specs.Lawful.{packed_format}
use Rattle.packed.specs.Packed.{packed_front}
use Rattle.packed.proofs.reader.PackedReaderSource.next_event.Goals as goal

pub returns-in-Ok-None : goal.returns-in-Ok-None
returns-in-Ok-None c =
    let r = c.args.self.now in
    let front : packed_front r.input.rest.now ≡ nothing = cc in
    gave_nothing packed_format (option_map ev_of r.latest) r.input front

pub returns-in-Ok-Some : goal.returns-in-Ok-Some
returns-in-Ok-Some c =
    let r = c.args.self.now in
    let found = c.in-Ok-Some.found in
    let front : packed_front r.input.rest.now ≡ event (ev_of found.event) found.size = cc in
    rw c.head.ensures (gave_event packed_format (option_map ev_of r.latest) r.input (ev_of found.event) found.size c.pass.result c.pass.new.self front c.pass.ensures)

pub returns-in-Err : goal.returns-in-Err
returns-in-Err c = let r = c.args.self.now in gave_fault packed_format (option_map ev_of r.latest) r.input c.in-Err.cause c.fault.result (sym c.in-Err.ensures.front) c.fault.ensures
