use Rattle.std.proofs.Common.{◌≡◌, Ok, Some, ap, ◌∙◌}
use Rattle.loader.proofs.Settling.{loads_document, loads_refusal}
use Rattle.loader.proofs.loader.Loader.load.Goals as goal

pub returns-in-Ok-Some : goal.returns-in-Ok-Some
returns-in-Ok-Some g c =
    let is : c.load_from-answer.result ≡ Ok (Some c.in-Ok-Some.field-0-0) = c.in-Ok-Some.is ∙ ap Ok (rw c.in-Ok-Some.is at c.in-Ok-Some.field-0-is) in
    rw is
    (loads_document c.args.tables.now c.wipe.new.self c.args.self.now.phase (g.S.Source.flow c.args.self.now.source) c.wipe.ensures
    c.in-Ok-Some.field-0-0 (g.S.Source.flow c.load_from-answer.new.source) c.load_from-answer.new.tables c.forget.new.self
    (rw is at c.load_from-answer.ensures) c.forget.ensures)

pub returns-in-Err : goal.returns-in-Err
returns-in-Err g c =
    rw c.in-Err.is
    (loads_refusal c.args.tables.now c.wipe.new.self c.args.self.now.phase (g.S.Source.flow c.args.self.now.source) c.wipe.ensures
    c.in-Err.field-0 (g.S.Source.flow c.load_from-answer.new.source) c.load_from-answer.new.tables c.wipe-in-Err.new.self c.in-Err.ensures c.wipe-in-Err.ensures)
