-- The first fault of a document's nodes.
use Rattle.std.proofs.Common.{◌≡◌, ℕ, ◌+◌, ◌<◌, true, ◌&&◌, List, length, get_or, take, refl, arith}
use Rattle.std.proofs.lemmas.Bool.{and_parts, and_from}
use Rattle.document.specs.declared.node.Node.{Node}
use Rattle.document.specs.declared.refusal.Question.{Question}
use Rattle.document.specs.declared.refusal.Question.TheVariants.{Count, Kind, Tag, Value, Links, Sums}
use Rattle.std.specs.List.{list_all}
use Rattle.document.specs.Questions.{kind_right, tag_right, value_right, links_right}
use Rattle.document.specs.Check.{asked, Right, Wrong, AllRight, FirstFault}
use Rattle.document.proofs.Every.{node_right, every_weaker, every_numbered, numbered_at}

pub right_node : (n : ℕ) (links text : List ℕ) (v : Node) → Right n links text v → node_right n links text v ≡ true
right_node n links text v r =
    and_from (kind_right v) (tag_right text v && (value_right text v && links_right n links v)) r.kind
    (and_from (tag_right text v) (value_right text v && links_right n links v) r.tag
    (and_from (value_right text v) (links_right n links v) r.value r.linked))

pub node_right_lem : (n : ℕ) (links text : List ℕ) (v : Node) → node_right n links text v ≡ true → Right n links text v
node_right_lem n links text v e =
    let a = and_parts (kind_right v) (tag_right text v && (value_right text v && links_right n links v)) e in
    let b = and_parts (tag_right text v) (value_right text v && links_right n links v) a.1 in
    let d = and_parts (value_right text v) (links_right n links v) b.1 in
    record { kind = a.0; tag = b.0; value = d.0; linked = d.1 }

pub right_asked : (n : ℕ) (links text : List ℕ) (v : Node) → Right n links text v → (p : Question) → asked p n links text v ≡ true
right_asked n links text v r Count = refl
right_asked n links text v r Kind = r.kind
right_asked n links text v r Tag = r.tag
right_asked n links text v r Value = r.value
right_asked n links text v r Links = r.linked
right_asked n links text v r Sums = refl

pub all_right : (nodes : List Node) (links text : List ℕ) → list_all (node_right (length nodes) links text) nodes ≡ true → AllRight nodes links text
all_right nodes links text e =
    let n = length nodes in
    record {
      kinds = every_weaker (node_right n links text) kind_right nodes (λ v h. (node_right_lem n links text v h).kind) e;
      tags = every_weaker (node_right n links text) (tag_right text) nodes (λ v h. (node_right_lem n links text v h).tag) e;
      values = every_weaker (node_right n links text) (value_right text) nodes (λ v h. (node_right_lem n links text v h).value) e;
      linked = every_weaker (node_right n links text) (links_right n links) nodes (λ v h. (node_right_lem n links text v h).linked) e;
    }

pub first_fault :
    (nodes : List Node) (links text : List ℕ) (i : ℕ) (d : Node) (q : Question) → i < length nodes
    → list_all (node_right (length nodes) links text) (take i nodes) ≡ true → Wrong (length nodes) links text (get_or nodes i d) q
    → FirstFault nodes links text q (i + 1)
first_fault nodes links text i d q below passed wrong =
    let n = length nodes in
    record {
      node = get_or nodes i d;
      here = numbered_at nodes i d below;
      wrong = wrong;
      before = λ j v less e p. right_asked n links text v (node_right_lem n links text v (every_numbered (node_right n links text) nodes i j v passed (omega arith) e)) p;
    }
