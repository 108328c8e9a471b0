use Rattle.document.proofs.Lookups.{get_read}
use Rattle.document.proofs.standing.Document.node.Goals as goal

pub returns : goal.returns
returns c =
    let m = c.in_ok-place.ensures in
    get_read c.args.self.now c.args.number c.in_ok-place.place c.get.result m.0 m.1 c.get.ensures.lookup
