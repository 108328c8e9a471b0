-- How much the tables hold, and how much there is in what they stand for.
use Rattle.std.proofs.Common.{◌≡◌, ℕ, suc, ◌+◌, ◌-◌, ◌≤◌, List, [], ◌∷◌, ◌++◌, length, drop, sum_by, refl, ap, ◌∙◌, arith}
use Rattle.std.specs.List.{AllByRecursion}
use Rattle.std.proofs.lemmas.List.{length-map, length-take, length-drop}
use Rattle.std.proofs.lemmas.List.Sums.{sum_by-cons}
use Rattle.model.specs.Graph.{Look, Vertex}
use Rattle.document.specs.declared.node.Node.{Node}
use Rattle.document.specs.Questions.{part, link_count, text_length}
use Rattle.document.specs.Books.{vertex_of, graph_of}
use Rattle.serial.specs.Compose.{bare_vertex}
use Rattle.serial.specs.Stocks.{all_links, text_of, all_text, waiting, stock}
use Rattle.composer.specs.declared.anchor.Anchor.{Anchor}
use Rattle.composer.specs.declared.frames.Frame.{Frame}
use Rattle.composer.specs.Names.{name_of}
use Rattle.composer.specs.State.{St}
use Rattle.loads.specs.Tidy.{root_of, before_last, open_ones_of, names_onto, composed_of, Placed, AllOpen, Tidy}
use Rattle.loads.proofs.Parts.{last_length}

part_length : (xs : List ℕ) (place n : ℕ) → place + n ≤ length xs → length (part xs place n) ≡ n
part_length xs place n h = length-take n (drop place xs) ∙ omega (arith, length-drop place xs)

text_size : (nodes : List Node) (links text : List ℕ) → AllByRecursion (Placed links text) nodes → all_text (graph_of nodes links text) ≡ sum_by text_length nodes
text_size [] links text all = refl
text_size (v ∷ nodes) links text all =
    omega (
      arith,
      text_size nodes links text all.1,
      sum_by-cons text_length v nodes,
      part_length text v.tag_start v.tag_length all.0.tag,
      part_length text v.value_start v.value_length all.0.value,
    )

links_size : (nodes : List Node) (links text : List ℕ) → AllByRecursion (Placed links text) nodes → all_links (graph_of nodes links text) ≡ sum_by link_count nodes
links_size [] links text all = refl
links_size (v ∷ nodes) links text all =
    omega (arith, links_size nodes links text all.1, sum_by-cons link_count v nodes, part_length links v.first_link v.link_count all.0.linked)

names_size : (ns : List (List ℕ × ℕ)) (anchors : List Anchor) → length (names_onto ns anchors) ≡ length ns + length anchors
names_size ns [] = omega arith
names_size ns (a ∷ anchors) = names_size ((name_of a, a.node) ∷ ns) anchors ∙ omega arith

opens_size : (fs : List Frame) (root waiting : List ℕ) → length (open_ones_of fs root waiting) ≡ suc (length fs)
opens_size [] root waiting = refl
opens_size (f ∷ fs) root waiting = ap suc (opens_size fs root (before_last f.children waiting))

waiting_size : (nodes : List Node) (n : ℕ) (fs : List Frame) (root wait : List ℕ) → AllOpen nodes n fs wait → waiting (open_ones_of fs root wait) ≡ length wait + length root
waiting_size nodes n [] root wait o = omega (arith, ap length o)
waiting_size nodes n (f ∷ fs) root wait o =
    omega (
      arith,
      waiting_size nodes o.0.place fs root (before_last f.children wait) o.2,
      last_length f.children wait o.1,
      o.1,
      length-take (length wait - f.children) wait,
    )

-- the sizes of what the tables stand for
pub record Sizes (s : St) : Type 0 where
  pub nodes : length (composed_of s).nodes ≡ length s.nodes
  pub text : all_text (composed_of s).nodes ≡ length s.text
  pub names : length (composed_of s).names ≡ length s.anchors
  pub waits : waiting (composed_of s).open_ones ≡ length s.waiting + length (root_of s.nodes)
  pub links : stock (composed_of s) ≡ length s.links + length s.waiting + length (root_of s.nodes)
  pub opens : length (composed_of s).open_ones ≡ suc (length s.frames)

pub sizes : (s : St) → Tidy s → Sizes s
sizes s t =
    let w = waiting_size s.nodes (length s.nodes) s.frames (root_of s.nodes) s.waiting t.opens in
    record {
      nodes = length-map s.nodes (vertex_of s.links s.text);
      text = text_size s.nodes s.links s.text t.placed ∙ t.texts;
      names = names_size [] s.anchors ∙ omega arith;
      waits = w;
      links = omega (arith, w, links_size s.nodes s.links s.text t.placed, t.placed_links);
      opens = opens_size s.frames (root_of s.nodes) s.waiting;
    }

-- a node more
pub text_more : (g : List Vertex) (l : Look) → all_text (g ++ bare_vertex l ∷ []) ≡ all_text g + text_of l
text_more [] l = omega arith
text_more (x ∷ g) l = omega (arith, text_more g l)

pub links_same : (g : List Vertex) (l : Look) → all_links (g ++ bare_vertex l ∷ []) ≡ all_links g
links_same [] l = refl
links_same (x ∷ g) l = ap (λ n. length x.links + n) (links_same g l)

pub root_few : (nodes : List Node) → length (root_of nodes) ≤ 1
root_few [] = omega arith
root_few (v ∷ nodes) = omega arith
