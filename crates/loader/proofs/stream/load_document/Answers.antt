use Rattle.std.proofs.Common.{subst}
use Rattle.std.proofs.lemmas.Result.{err_from_is_err_and}
use Rattle.composer.specs.Holding.{spaces_of}
use Rattle.convert.proofs.Allowed.{came_allowed}
use Rattle.loader.specs.Loading.{Outcome}
use Rattle.loader.specs.Loads.{WithDocument, WithRefusal}
use Rattle.loader.proofs.Running.{head_given, begins}
use Rattle.loader.proofs.stream.load_document.Goals as goal

pub returns-in_ok-loaded-in-DocumentStart : goal.returns-in_ok-loaded-in-DocumentStart
returns-in_ok-loaded-in-DocumentStart g c =
    let f = g.S.Source.flow c.args.source.now in
    let f' = g.S.Source.flow c.next_event.new.self in
    let one = head_given f c.next_event.result c.in_ok-head.head f' c.next_event.ensures c.in_ok-head.ensures in
    let a = came_allowed f one.one f' (g.S.Source.sound c.args.source.now) one.came in
    subst (λ (o : Outcome). WithDocument o c.args.tables.now c.in_ok-loaded-in-DocumentStart.loaded c.load_nodes.new.tables (g.S.Source.flow c.load_nodes.new.source))
    (begins (spaces_of c.args.tables.now) f f' c.in_ok-head.head c.args.tables.now one c.requires.blank a c.in-DocumentStart.is) c.in_ok-loaded-in-DocumentStart.ensures

pub returns-in_err-loaded-in-DocumentStart : goal.returns-in_err-loaded-in-DocumentStart
returns-in_err-loaded-in-DocumentStart g c =
    let p = err_from_is_err_and c.from_residual-in_err-loaded-in-DocumentStart.result c.from_residual-in_err-loaded-in-DocumentStart.ensures.1 in
    let f = g.S.Source.flow c.args.source.now in
    let f' = g.S.Source.flow c.next_event.new.self in
    let one = head_given f c.next_event.result c.in_ok-head.head f' c.next_event.ensures c.in_ok-head.ensures in
    let a = came_allowed f one.one f' (g.S.Source.sound c.args.source.now) one.came in
    rw (p.1, p.2)
    (subst (λ (o : Outcome). WithRefusal o c.args.tables.now c.in_err-loaded-in-DocumentStart.field-0.0 c.load_nodes.new.tables (g.S.Source.flow c.load_nodes.new.source))
    (begins (spaces_of c.args.tables.now) f f' c.in_ok-head.head c.args.tables.now one c.requires.blank a c.in-DocumentStart.is) c.in_err-loaded-in-DocumentStart.ensures)
