-- Parts of tables as the tables grow, and what a node stands for in them.
use Rattle.std.proofs.Common.{◌≡◌, ℕ, zero, suc, ◌+◌, ◌-◌, ◌≤◌, List, [], ◌∷◌, ◌++◌, length, take, drop, set, Some, sum_by, sym, refl, ap, ◌∙◌, ap₂, arith}
use Rattle.std.specs.List.{AllByRecursion}
use Rattle.std.proofs.lemmas.List.{append_assoc, length-append, length-drop, length_push, drop-append-le, take-append-le, drop_at, take_at, take_all}
use Rattle.std.proofs.lemmas.List.Sums.{sum_by-cons}
use Rattle.model.specs.declared.NodeKind.{NodeKind}
use Rattle.model.specs.declared.NodeKind.TheVariants.{Scalar, Sequence, Mapping}
use Rattle.model.specs.declared.Mark.{Mark}
use Rattle.model.specs.Graph.{Look, nth}
use Rattle.document.specs.declared.node.Node.{Node}
use Rattle.document.specs.Questions.{part}
use Rattle.document.specs.Books.{kind_of, vertex_of, graph_of}
use Rattle.serial.specs.Compose.{bare_vertex}
use Rattle.composer.specs.Steps.{kind_number, value_for, value_place, node_from}
use Rattle.loads.specs.Tidy.{Placed, last_of, before_last}

pub part_grow : (xs ys : List ℕ) (place n : ℕ) → place + n ≤ length xs → part (xs ++ ys) place n ≡ part xs place n
part_grow xs ys place n h =
    ap (take n) (drop-append-le place xs ys (omega arith)) ∙ take-append-le n (drop place xs) ys (omega (arith, length-drop place xs))

pub part_at : (xs ys zs : List ℕ) → part (xs ++ (ys ++ zs)) (length xs) (length ys) ≡ ys
part_at xs ys zs = ap (take (length ys)) (drop_at xs (ys ++ zs) (length xs) refl) ∙ take_at ys zs (length ys) refl

pub part_last : (xs ys zs : List ℕ) → part (xs ++ (ys ++ zs)) (length xs + length ys) (length zs) ≡ zs
part_last xs ys zs =
    ap (λ l. part l (length xs + length ys) (length zs)) (sym (append_assoc xs ys zs))
    ∙ ap (take (length zs)) (drop_at (xs ++ ys) zs (length xs + length ys) (length-append xs ys))
    ∙ take_all (length zs) zs (omega arith)

-- a node stands for the same in longer tables
pub vertex_grow : (links ls text ts : List ℕ) (v : Node) → Placed links text v → vertex_of (links ++ ls) (text ++ ts) v ≡ vertex_of links text v
vertex_grow links ls text ts v p = λ i. record {
  look = record {
    kind = kind_of v.kind;
    style = v.style;
    tag = part_grow text ts v.tag_start v.tag_length p.tag i;
    value = part_grow text ts v.value_start v.value_length p.value i;
  };
  links = part_grow links ls v.first_link v.link_count p.linked i;
}

pub graph_grow : (nodes : List Node) (links ls text ts : List ℕ) → AllByRecursion (Placed links text) nodes → graph_of nodes (links ++ ls) (text ++ ts) ≡ graph_of nodes links text
graph_grow [] links ls text ts all = refl
graph_grow (v ∷ vs) links ls text ts all = ap₂ ◌∷◌ (vertex_grow links ls text ts v all.0) (graph_grow vs links ls text ts all.1)

pub placed_grow : (links links' text text' : List ℕ) → length links ≤ length links' → length text ≤ length text' → (v : Node) → Placed links text v → Placed links' text' v
placed_grow links links' text text' a b v p = record { tag = omega arith; value = omega arith; linked = omega arith }

-- a new node
pub kind_back : (k : NodeKind) → kind_of (kind_number k) ≡ k
kind_back Scalar = refl
kind_back Sequence = refl
kind_back Mapping = refl

abbrev pub new_look : NodeKind → ℕ → List ℕ → List ℕ → Look
new_look k style tag value = record { kind = k; style = style; tag = tag; value = value }

value_back : (k : NodeKind) (text tag value : List ℕ)
    → part (text ++ (tag ++ value_for k value)) (value_place k (length text + length tag)) (length (value_for k value)) ≡ value_for k value
value_back Scalar text tag value = part_last text tag value
value_back Sequence text tag value = refl
value_back Mapping text tag value = refl

pub new_vertex : (k : NodeKind) (style : ℕ) (links text tag value : List ℕ) (start end : Mark)
    → vertex_of links (text ++ (tag ++ value_for k value)) (node_from k style (length text) (length tag) (length (value_for k value)) start end)
    ≡ bare_vertex (new_look k style tag (value_for k value))
new_vertex k style links text tag value start end = λ i. record {
  look = record { kind = kind_back k i; style = style; tag = part_at text tag (value_for k value) i; value = value_back k text tag value i };
  links = [];
}

pub new_placed : (k : NodeKind) (style : ℕ) (links text tag value : List ℕ) (start end : Mark)
    → Placed links (text ++ (tag ++ value_for k value)) (node_from k style (length text) (length tag) (length (value_for k value)) start end)
new_placed Scalar style links text tag value start end =
    let a = length-append text (tag ++ value) in let b = length-append tag value in
    record { tag = omega arith; value = omega arith; linked = omega arith }
new_placed Sequence style links text tag value start end =
    let a = length-append text (tag ++ []) in let b = length-append tag [] in
    record { tag = omega arith; value = omega arith; linked = omega arith }
new_placed Mapping style links text tag value start end =
    let a = length-append text (tag ++ []) in let b = length-append tag [] in
    record { tag = omega arith; value = omega arith; linked = omega arith }

-- a sum where one entry changes
pub sum_set : (f : Node → ℕ) (vs : List Node) (i : ℕ) (v w : Node) → nth vs i ≡ Some v → sum_by f (set vs i w) + f v ≡ sum_by f vs + f w
sum_set f [] i v w h = cc
sum_set f (x ∷ vs) zero v w h = let e : x ≡ v = cc in omega (arith, ap f e, sum_by-cons f x vs, sum_by-cons f w vs)
sum_set f (x ∷ vs) (suc i) v w h = omega (arith, sum_set f vs i v w h, sum_by-cons f x vs, sum_by-cons f x (set vs i w))

-- the last entries
pub last_push : (n v : ℕ) (xs : List ℕ) → last_of (n + 1) (xs ++ v ∷ []) ≡ last_of n xs ++ v ∷ []
last_push n v xs =
    let e : length (xs ++ v ∷ []) - (n + 1) ≡ length xs - n = omega (arith, length_push xs v) in
    ap (λ m. drop m (xs ++ v ∷ [])) e ∙ drop-append-le (length xs - n) xs (v ∷ []) (omega arith)

pub before_push : (n v : ℕ) (xs : List ℕ) → before_last (n + 1) (xs ++ v ∷ []) ≡ before_last n xs
before_push n v xs =
    let e : length (xs ++ v ∷ []) - (n + 1) ≡ length xs - n = omega (arith, length_push xs v) in
    ap (λ m. take m (xs ++ v ∷ [])) e ∙ take-append-le (length xs - n) xs (v ∷ []) (omega arith)

pub last_length : (n : ℕ) (xs : List ℕ) → n ≤ length xs → length (last_of n xs) ≡ n
last_length n xs h = length-drop (length xs - n) xs ∙ omega arith
