use Rattle.std.proofs.Common.{sym, ap, ◌∙◌}
use Rattle.document.specs.Books.{book_of}
use Rattle.document.specs.Reads.{seen}
use Rattle.walk.proofs.Looking.{links_there}
use Rattle.walk.proofs.look.links_at.Goals as goal

pub returns : goal.returns
returns c = links_there (book_of c.args.d.now) c.args.node c.unwrap.result.now c.sound.ensures c.requires (sym (ap seen c.unwrap.ensures) ∙ c.links.ensures)
