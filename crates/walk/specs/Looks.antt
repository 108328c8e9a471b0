-- What the nodes of a Document are, where the number names one.
use Rattle.std.specs.Prelude.{◌≡◌, ℕ, ◌<◌, ◌≤◌, List, [], length, Some, None, Option, slice_index}
use Rattle.model.specs.declared.NodeKind.{NodeKind}
use Rattle.model.specs.Graph.{Vertex, nth, numbered}

-- the number of a node
pub record Inside (g : List Vertex) (v : ℕ) : Type 0 where
  pub low : 1 ≤ v
  pub high : v ≤ length g

-- the node v is of the kind k
pub record IsKind (g : List Vertex) (v : ℕ) (k : NodeKind) : Type 0 where
  pub vertex : Vertex
  pub there : numbered g v ≡ Some vertex
  pub kind : vertex.look.kind ≡ k

abbrev links_in : Option Vertex → List ℕ
links_in None = []
links_in (Some x) = x.links

-- the links of a node
abbrev pub links_at : List Vertex → ℕ → List ℕ
links_at g v = links_in (numbered g v)

-- the links of the node v are these, and each names a node
pub record HasLinks (g : List Vertex) (v : ℕ) (ws : List ℕ) : Type 0 where
  pub links : ws ≡ links_at g v
  pub few : length ws ≤ 16384
  pub inside : (i : ℕ) → i < length ws → Inside g (slice_index ws i)

-- the link of the node v at a place, from 0, names the node w
pub record LinksTo (g : List Vertex) (v i w : ℕ) : Type 0 where
  pub link : nth (links_at g v) i ≡ Some w
  pub inside : Inside g w
