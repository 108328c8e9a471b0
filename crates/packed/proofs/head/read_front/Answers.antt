use Rattle.std.proofs.Common.{◌≡◌, arith, sym}
use Rattle.std.proofs.lemmas.Grind.{common_steps}
use Rattle.model.specs.Reading.{event}
use Rattle.model.proofs.Readings.{front_size}
use Rattle.yaml.specs.Shapes.{ev_of}
use Rattle.packed.specs.Packed.{packed_front}
use Rattle.packed.specs.Lawful.{packed_format}
use Rattle.packed.proofs.head.read_front.Goals as goal

pub returns-in_ok-cut_texts-in-len9-up-clause-inside :
    goal.returns-in_ok-cut_texts-in-len9-up-clause-inside
returns-in_ok-cut_texts-in-len9-up-clause-inside c =
    let found = c.in_ok-cut_texts-in-len9-up.field-0 in
    let front : event (ev_of found.event) found.size ≡ packed_front c.args.rest.now = grind (arith, common_steps) in
    front_size packed_format (ev_of found.event) found.size c.args.rest.now (sym front)
