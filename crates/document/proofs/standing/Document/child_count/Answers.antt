use Rattle.std.proofs.Common.{◌≡◌, ◌∙◌, rules}
use Rattle.document.specs.Questions.{link_count}
use Rattle.document.specs.Reads.{seen, given}
use Rattle.document.proofs.Lookups.{count_is}
use Rattle.document.proofs.standing.Document.child_count.Goals as goal

pub returns : goal.returns
returns c =
    let read : c.map.result ≡ given link_count (seen c.node.result) = search rules in
    read ∙ count_is c.args.self.now c.args.number (seen c.node.result) c.node.ensures.found
