use Rattle.std.proofs.Common.{map, sym, ap, ◌∙◌}
use Rattle.serial.specs.Numbering.{anchor_of}
use Rattle.serial.specs.Serialize.{token_events}
use Rattle.document.specs.Books.{book_of}
use Rattle.runs.specs.Writer.{due_of}
use Rattle.dumper.specs.Steps.{token_of}
use Rattle.dumper.proofs.Eventful.{node_told}
use Rattle.dumper.proofs.Handed.{hands_as}
use Rattle.dumper.proofs.outlet.Outlet.dump_step.Goals as goal

pub returns-in-Some : goal.returns-in-Some
returns-in-Some g c =
    let graph = (book_of c.args.planned.now.d.now).nodes in
    let es = token_events (anchor_of graph) graph (token_of c.args.step) in
    hands_as (ap (map (due_of c.args.step.node)) c.in-Some.ensures ∙ ap (λ v. map (due_of v) es) (sym (node_told c.args.step))) c.hand.ensures
