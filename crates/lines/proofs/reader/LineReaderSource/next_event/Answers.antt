use Rattle.std.proofs.Common.{ap, ◌∙◌, sym}
use Rattle.std.specs.Option.{option_map}
use Rattle.yaml.specs.Shapes.{head_with}
use Rattle.yaml.proofs.Gives.{gave_event, gave_nothing, gave_fault}
use Rattle.lines.specs.Lawful.{lines_format}
use Rattle.lines.specs.Telling.{ev_told}
use Rattle.lines.proofs.reader.LineReaderSource.next_event.Goals as goal

pub returns-in-Ok-None : goal.returns-in-Ok-None
returns-in-Ok-None c =
    let r = c.args.self.now in
    let found = rw c.in-Ok-None.field-0-is at c.in-Ok-None.ensures in
    gave_nothing lines_format (option_map ev_told r.latest) r.input (sym found.front)

pub returns-in-Ok-Some : goal.returns-in-Ok-Some
returns-in-Ok-Some c =
    let r = c.args.self.now in
    let e = ev_told c.read_front.new.told in
    let found = rw c.in-Ok-Some.field-0-is at c.in-Ok-Some.ensures in
    let gave = gave_event lines_format (option_map ev_told r.latest) r.input e c.in-Ok-Some.size c.pass.result c.pass.new.self (sym found.front) c.pass.ensures in (
      gave.0,
      record { first = gave.1.first; lasting = gave.1.lasting; latest = ap (option_map ev_told) c.hold.ensures ∙ gave.1.latest },
      c.head.ensures ∙ (ap (λ x. head_with x c.pass.result.0 c.pass.result.1) c.event.ensures ∙ gave.2),
    )

pub returns-in-Err : goal.returns-in-Err
returns-in-Err c = let r = c.args.self.now in gave_fault lines_format (option_map ev_told r.latest) r.input c.in-Err.cause c.fault.result (sym c.in-Err.ensures.front) c.fault.ensures
