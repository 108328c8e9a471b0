use Rattle.std.proofs.Common.{sym}
use lib.ListN.{length-map}
use Rattle.document.specs.Reads.{of_document}
use Rattle.document.proofs.standing.Document.len.Goals as goal

pub returns : goal.returns
returns c = sym (length-map c.args.self.now.nodes.now (of_document c.args.self.now))
