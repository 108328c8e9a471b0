-- Documents as graphs of nodes; paths, where they lead, and what it means that two documents are alike by paths.
use Rattle.std.specs.Prelude.{◌≡◌, ℕ, zero, suc, Bool, cond, List, [], ◌∷◌, is_some, Some, None, Ok, Err, Option, Result, ◌==◌}
use Rattle.model.specs.declared.NodeKind.{NodeKind}
use Rattle.model.specs.declared.NodeKind.TheVariants.{Scalar, Sequence, Mapping}
use Rattle.model.specs.declared.NoSuchKind.{NoSuchKind}

-- the numbers of the kinds of nodes, as in `yaml_node_type_t`
abbrev pub node_number : NodeKind → ℕ
node_number Scalar = 1
node_number Sequence = 2
node_number Mapping = 3

-- the kind of a number
abbrev pub node_kind_at : ℕ → Option NodeKind
node_kind_at n = cond (n == 1) (Some Scalar) (cond (n == 2) (Some Sequence) (cond (n == 3) (Some Mapping) None))

-- the answer is the kind of that number, or tells the number where no kind has it
abbrev pub NodeKindOf : ℕ → Result NodeKind NoSuchKind → Type 0
NodeKindOf n (Ok k) = node_kind_at n ≡ Some k
NodeKindOf n (Err e) = (e.0 ≡ n) × (node_kind_at n ≡ None)

-- what a node looks like: all of it but its links and its marks
pub record Look : Type 0 where
  pub kind : NodeKind
  pub style : ℕ
  pub tag : List ℕ
  pub value : List ℕ

-- a node: its look, and the numbers of the nodes that its links name, in order; a mapping's are key, value, key, value
pub record Vertex : Type 0 where
  pub look : Look
  pub links : List ℕ

-- a document: its nodes, of which the first is number 1 and the root, and whether its start and its end are implicit
pub record Book : Type 0 where
  pub nodes : List Vertex
  pub start_implicit : Bool
  pub end_implicit : Bool

-- the element at i, from 0, if there is one
abbrev pub nth : {A : Type 0} → List A → ℕ → Option A
nth [] i = None
nth (x ∷ xs) zero = Some x
nth (x ∷ xs) (suc i) = nth xs i

-- the element of that number, from 1, if there is one
abbrev pub numbered : {A : Type 0} → List A → ℕ → Option A
numbered xs zero = None
numbered xs (suc i) = nth xs i

-- the root's number, if the document has a node
abbrev pub root : List Vertex → Option ℕ
root [] = None
root (x ∷ xs) = Some 1

abbrev link_of : Option Vertex → ℕ → Option ℕ
link_of None place = None
link_of (Some x) place = numbered x.links place

-- the node that the link at a place, from 1, of a node names
abbrev pub follow : List Vertex → Option ℕ → ℕ → Option ℕ
follow g None place = None
follow g (Some v) place = link_of (numbered g v) place

-- A path is a list of places, each choosing a link of the node reached so far. Where it leads from a node, if anywhere:
abbrev pub leads_from : List Vertex → Option ℕ → List ℕ → Option ℕ
leads_from g v [] = v
leads_from g v (place ∷ path) = leads_from g (follow g v place) path

-- where a path leads from the root; the empty path leads to the root
abbrev pub leads : Book → List ℕ → Option ℕ
leads b path = leads_from b.nodes (root b.nodes) path

abbrev look_in : Option Vertex → Option Look
look_in None = None
look_in (Some x) = Some x.look

abbrev look_of : List Vertex → Option ℕ → Option Look
look_of g None = None
look_of g (Some v) = look_in (numbered g v)

-- the look of the node that a path leads to
abbrev pub look_at : Book → List ℕ → Option Look
look_at b path = look_of b.nodes (leads b path)

-- Alike by paths: the same flags and paths, each path leads to equal looks, and two paths end on one node in one exactly when they do in the other.
pub record Alike (a b : Book) : Type 0 where
  pub start : a.start_implicit ≡ b.start_implicit
  pub end : a.end_implicit ≡ b.end_implicit
  pub paths : (p : List ℕ) → is_some (leads a p) ≡ is_some (leads b p)
  pub looks : (p : List ℕ) → look_at a p ≡ look_at b p
  pub sharing : (p q : List ℕ) → (leads a p ≡ leads a q → leads b p ≡ leads b q) × (leads b p ≡ leads b q → leads a p ≡ leads a q)

-- being alike by paths is an equivalence
pub record Equivalence : Type 0 where
  pub same : (a : Book) → Alike a a
  pub back : (a b : Book) → Alike a b → Alike b a
  pub on : (a b c : Book) → Alike a b → Alike b c → Alike a c
