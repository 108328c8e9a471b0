-- The graph of an empty Document.
use Rattle.std.proofs.Common.{◌≡◌}
use Rattle.document.specs.declared.standing.Document.{Document}
use Rattle.document.specs.Books.{book_of, graph_of, Bare}
use Rattle.kelfhoam_c.specs.Writing.{book_of_nothing}

pub bare_book : (d : Document) → Bare d → book_of d ≡ book_of_nothing
bare_book d b = λ i. record { nodes = graph_of (b.nodes i) d.links.now d.text.now; start_implicit = b.start_told i; end_implicit = b.end_told i }
