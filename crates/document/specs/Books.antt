-- The graph that a Document stands for, and how it came to stand.
use Rattle.std.specs.Prelude.{◌≡◌, ℕ, Bool, false, cond, List, [], map, Ok, Err, Result, ◌==◌}
use Rattle.model.specs.declared.NodeKind.{NodeKind}
use Rattle.model.specs.declared.NodeKind.TheVariants.{Scalar, Sequence, Mapping}
use Rattle.model.specs.Graph.{Look, Vertex, Book}
use Rattle.document.specs.declared.handed.Handed.{Handed as HandedIn}
use Rattle.document.specs.declared.node.Node.{Node}
use Rattle.document.specs.declared.refusal.Refusal.{Refusal}
use Rattle.document.specs.declared.standing.Document.{Document}
use Rattle.document.specs.Questions.{tag_of, value_of, links_of}
use Rattle.document.specs.Check.{Handed, handed_of, nodes_in, links_in, text_in, Refused, Fit}

abbrev pub kind_of : ℕ → NodeKind
kind_of k = cond (k == 1) Scalar (cond (k == 2) Sequence Mapping)

abbrev pub look_of : List ℕ → Node → Look
look_of text v = record { kind = kind_of v.kind; style = v.style; tag = tag_of text v; value = value_of text v }

abbrev pub vertex_of : List ℕ → List ℕ → Node → Vertex
vertex_of links text v = record { look = look_of text v; links = links_of links v }

abbrev pub graph_of : List Node → List ℕ → List ℕ → List Vertex
graph_of nodes links text = map (vertex_of links text) nodes

abbrev pub book_from : List Node → List ℕ → List ℕ → Bool → Bool → Book
book_from nodes links text s e = record { nodes = graph_of nodes links text; start_implicit = s; end_implicit = e }

-- the graph of the tables that were handed in
abbrev pub book_on : Handed → Bool → Bool → Book
book_on h s e = book_from (nodes_in h) (links_in h) (text_in h) s e

-- the graph of a Document
abbrev pub book_of : Document → Book
book_of d = book_from d.nodes.now d.links.now d.text.now d.start_implicit d.end_implicit

-- it has no nodes, links, text or flags
pub record Bare (d : Document) : Type 0 where
  pub nodes : d.nodes.now ≡ []
  pub links : d.links.now ≡ []
  pub text : d.text.now ≡ []
  pub start_told : d.start_implicit ≡ false
  pub end_told : d.end_implicit ≡ false

-- it stands on exactly what was handed in
pub record Stands (h : Handed) (s e : Bool) (d : Document) : Type 0 where
  pub fit : Fit h
  pub nodes : d.nodes.now ≡ nodes_in h
  pub links : d.links.now ≡ links_in h
  pub text : d.text.now ≡ text_in h
  pub book : book_of d ≡ book_on h s e

-- a Document that stands on what was handed in, or why there is none
abbrev pub Stood : HandedIn → Result Document Refusal → Type 0
Stood h (Ok d) = Stands (handed_of h) h.start_implicit h.end_implicit d
Stood h (Err f) = Refused (handed_of h) f
