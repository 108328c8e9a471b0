use Rattle.document.proofs.Lookups.{links_within}
use Rattle.document.proofs.standing.Document.links.Goals as goal

pub part-requires : goal.part-requires
part-requires c = links_within c.args.self.now c.args.number c.in_ok-node.node.now c.in_ok-node.ensures.found
