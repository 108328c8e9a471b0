use Rattle.std.proofs.Common.{◌∙◌}
use Rattle.document.proofs.Lookups.{kind_is}
use Rattle.document.proofs.standing.Document.kind.Goals as goal

pub returns : goal.returns
returns c =
    c.ok.ensures.value
    ∙ kind_is c.args.self.now c.args.number c.in_ok-node.field-0.now c.try_from.result c.in_ok-node.ensures.found c.try_from.ensures
