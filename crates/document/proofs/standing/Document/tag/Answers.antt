use Rattle.document.proofs.Lookups.{tag_within}
use Rattle.document.proofs.standing.Document.tag.Goals as goal

pub part-requires : goal.part-requires
part-requires c = tag_within c.args.self.now c.args.number c.in_ok-node.node.now c.in_ok-node.ensures.found
