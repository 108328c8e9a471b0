-- What reading a Document gives, by the graph that it stands for.
use Rattle.std.specs.Prelude.{◌≡◌, ℕ, List, length, Some, None, Option}
use Rattle.std.specs.Borrow.{Bor}
use Rattle.model.specs.declared.Mark.{Mark}
use Rattle.model.specs.declared.NodeKind.{NodeKind}
use Rattle.model.specs.Graph.{Vertex, numbered, follow}
use Rattle.document.specs.declared.node.Node.{Node}
use Rattle.document.specs.declared.standing.Document.{Document}
use Rattle.document.specs.Books.{vertex_of, book_of}

-- what stands behind a reference, if there is one
abbrev pub seen : {X : Type 0} → Option (Bor X) → Option X
seen None = None
seen (Some x) = Some x.now

-- the same of what is there, if it is there
abbrev pub given : {X Y : Type 0} → (X → Y) → Option X → Option Y
given f None = None
given f (Some x) = Some (f x)

-- the record and the vertex of a number
abbrev pub record_at : Document → ℕ → Option Node
record_at d k = numbered d.nodes.now k

abbrev pub vertex_at : Document → ℕ → Option Vertex
vertex_at d k = numbered (book_of d).nodes k

abbrev pub of_document : Document → Node → Vertex
of_document d v = vertex_of d.links.now d.text.now v

-- the record of that number, which shows the vertex of that number
pub record NodeRead (d : Document) (k : ℕ) (r : Option (Bor Node)) : Type 0 where
  pub found : seen r ≡ record_at d k
  pub shows : given (of_document d) (seen r) ≡ vertex_at d k

abbrev pub kind_in : Vertex → NodeKind
kind_in x = x.look.kind

abbrev pub style_in : Vertex → ℕ
style_in x = x.look.style

abbrev pub tag_in : Vertex → List ℕ
tag_in x = x.look.tag

abbrev pub value_in : Vertex → List ℕ
value_in x = x.look.value

abbrev pub links_in : Vertex → List ℕ
links_in x = x.links

abbrev pub count_in : Vertex → ℕ
count_in x = length x.links

abbrev pub kind_at : Document → ℕ → Option NodeKind
kind_at d k = given kind_in (vertex_at d k)

abbrev pub style_at : Document → ℕ → Option ℕ
style_at d k = given style_in (vertex_at d k)

abbrev pub tag_at : Document → ℕ → Option (List ℕ)
tag_at d k = given tag_in (vertex_at d k)

abbrev pub value_at : Document → ℕ → Option (List ℕ)
value_at d k = given value_in (vertex_at d k)

abbrev pub links_at : Document → ℕ → Option (List ℕ)
links_at d k = given links_in (vertex_at d k)

abbrev pub count_at : Document → ℕ → Option ℕ
count_at d k = given count_in (vertex_at d k)

abbrev pub child_at : Document → ℕ → ℕ → Option ℕ
child_at d k place = follow (book_of d).nodes (Some k) place

abbrev pub start_in : Node → Mark
start_in v = v.start

abbrev pub end_in : Node → Mark
end_in v = v.end

-- marks are no part of the graph
abbrev pub start_at : Document → ℕ → Option Mark
start_at d k = given start_in (record_at d k)

abbrev pub end_at : Document → ℕ → Option Mark
end_at d k = given end_in (record_at d k)
