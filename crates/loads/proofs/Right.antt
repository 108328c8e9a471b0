-- Every node that is made is right.
use Rattle.std.proofs.Common.{◌≡◌, ℕ, ◌+◌, ◌%◌, ◌≤◌, Bool, true, false, cond, not, ◌&&◌, ◌||◌, eqb, leb, List, [], ◌∷◌, ◌++◌, length, codes, refl, ap, ◌∙◌, subst, inl, inr, arith}
use Rattle.std.specs.List.{AllByRecursion}
use Rattle.std.proofs.lemmas.Bool.{leb-true, le-leb, and_parts, and_from, or_left, not_from_false, cases_Bool, both_ways}
use Rattle.model.specs.declared.NodeKind.{NodeKind}
use Rattle.model.specs.declared.NodeKind.TheVariants.{Scalar, Sequence, Mapping}
use Rattle.model.specs.declared.Mark.{Mark}
use Rattle.model.specs.Events.{Ev, table, zero_free, allowed}
use Rattle.document.specs.declared.node.Node.{Node}
use Rattle.std.specs.List.{list_all as every}
use Rattle.document.specs.Questions.{lies, kind_right, bang, tag_of, links_of, tag_right, value_right, names, links_right}
use Rattle.document.proofs.Every.{every_weaker}
use Rattle.serial.specs.Serialize.{same_bytes, default_tag, start_kind}
use Rattle.serial.specs.Compose.{resolved}
use Rattle.composer.specs.State.{St}
use Rattle.composer.specs.Steps.{value_for, node_from}
use Rattle.loads.specs.Tidy.{Placed}
use Rattle.loads.proofs.Parts.{part_grow, part_at}
use Rattle.loads.proofs.Events.{Kept, kept_within}

-- the value of a node as its kind has it; the links likewise
abbrev pub value_shape : Node → Bool
value_shape v = cond (eqb v.kind 1) (leb v.value_length 4096) (eqb v.value_start 0 && eqb v.value_length 0)

abbrev pub link_shape : Node → Bool
link_shape v = cond (eqb v.kind 1) (eqb v.first_link 0 && eqb v.link_count 0) (not (eqb v.kind 3) || eqb (v.link_count % 2) 0)

pub record NodeRight (n : ℕ) (links text : List ℕ) (v : Node) : Type 0 where
  pub kind : kind_right v ≡ true
  pub tag_some : 1 ≤ v.tag_length
  pub tag_few : v.tag_length ≤ 256
  pub tag_free : zero_free (tag_of text v) ≡ true
  pub tag_told : bang (tag_of text v) ≡ false
  pub value : value_shape v ≡ true
  pub shape : link_shape v ≡ true
  pub named : every (names n) (links_of links v) ≡ true

names_more : (n m : ℕ) → n ≤ m → (l : ℕ) → names n l ≡ true → names m l ≡ true
names_more n m h l e = let p = and_parts (leb 1 l) (leb l n) e in and_from (leb 1 l) (leb l m) p.0 (le-leb l m (omega (arith, leb-true l n p.1)))

pub names_grow : (n m : ℕ) (ls : List ℕ) → n ≤ m → every (names n) ls ≡ true → every (names m) ls ≡ true
names_grow n m ls h = every_weaker (names n) (names m) ls (names_more n m h)

pub right_grow : (n m : ℕ) (links links' text text' : List ℕ) (v : Node) → n ≤ m → tag_of text' v ≡ tag_of text v → links_of links' v ≡ links_of links v → NodeRight n links text v → NodeRight m links' text' v
right_grow n m links links' text text' v h t l r = record {
  kind = r.kind;
  tag_some = r.tag_some;
  tag_few = r.tag_few;
  tag_free = ap zero_free t ∙ r.tag_free;
  tag_told = ap bang t ∙ r.tag_told;
  value = r.value;
  shape = r.shape;
  named = ap (every (names m)) l ∙ names_grow n m (links_of links v) h r.named;
}

pub all_grow : {P Q R : Node → Type 0} → ((v : Node) → P v → Q v → R v) → (vs : List Node) → AllByRecursion P vs → AllByRecursion Q vs → AllByRecursion R vs
all_grow f [] p q = tt
all_grow f (v ∷ vs) p q = (f v p.0 q.0, all_grow f vs p.1 q.1)

-- in longer tables
pub right_longer : (n : ℕ) (links ls text ts : List ℕ) (v : Node) → Placed links text v → NodeRight n links text v → NodeRight n (links ++ ls) (text ++ ts) v
right_longer n links ls text ts v p r = right_grow n n links (links ++ ls) text (text ++ ts) v (omega arith)
    (part_grow text ts v.tag_start v.tag_length p.tag) (part_grow links ls v.first_link v.link_count p.linked) r

-- tags
default_right : (k : NodeKind) → (1 ≤ length (default_tag k)) × (length (default_tag k) ≤ 256) × (zero_free (default_tag k) ≡ true) × (bang (default_tag k) ≡ false)
default_right Scalar = (omega arith, omega arith, refl, refl)
default_right Sequence = (omega arith, omega arith, refl, refl)
default_right Mapping = (omega arith, omega arith, refl, refl)

not_bang : (b : ℕ) (bs : List ℕ) → same_bytes (b ∷ bs) (codes "!") ≡ false → bang (b ∷ bs) ≡ false
not_bang b [] h = elim (cases_Bool (eqb b 33)) [
  | inl t ↦ absurd (both_ways (same_bytes (b ∷ []) (codes "!")) h (and_from (eqb b 33) true t refl))
  | inr f ↦ f
]
not_bang b (c ∷ bs) h = refl

tag_right_lem : (k : NodeKind) (tag : List ℕ) → length tag ≤ 256 → zero_free tag ≡ true
    → (1 ≤ length (resolved k tag)) × (length (resolved k tag) ≤ 256) × (zero_free (resolved k tag) ≡ true) × (bang (resolved k tag) ≡ false)
tag_right_lem k [] few free = default_right k
tag_right_lem k (b ∷ bs) few free = elim (cases_Bool (same_bytes (b ∷ bs) (codes "!"))) [
  | inl t ↦ rw t (default_right k)
  | inr f ↦ rw f (omega arith, few, free, not_bang b bs f)
]

most_tag : (k : NodeKind) → (table (start_kind k)).most_tag ≡ 256
most_tag Scalar = refl
most_tag Sequence = refl
most_tag Mapping = refl

-- a new node
new_kind : (k : NodeKind) (style place tag value : ℕ) (start end : Mark) → style ≤ (table (start_kind k)).most_style → kind_right (node_from k style place tag value start end) ≡ true
new_kind Scalar style place tag value start end h = or_left (leb style 5) _ (le-leb style 5 h)
new_kind Sequence style place tag value start end h = le-leb style 2 h
new_kind Mapping style place tag value start end h = le-leb style 2 h

new_value : (k : NodeKind) (style place tag : ℕ) (value : List ℕ) (start end : Mark) → length value ≤ (table (start_kind k)).most_value → value_shape (node_from k style place tag (length (value_for k value)) start end) ≡ true
new_value Scalar style place tag value start end h = le-leb (length value) 4096 h
new_value Sequence style place tag value start end h = refl
new_value Mapping style place tag value start end h = refl

new_shape : (k : NodeKind) (style place tag value : ℕ) (start end : Mark) → link_shape (node_from k style place tag value start end) ≡ true
new_shape Scalar style place tag value start end = refl
new_shape Sequence style place tag value start end = refl
new_shape Mapping style place tag value start end = refl

pub new_right : (n : ℕ) (k : NodeKind) (e : Ev) (links text : List ℕ) (start end : Mark) → allowed e ≡ true → e.kind ≡ start_kind k
    → NodeRight n links (text ++ (resolved k e.tag ++ value_for k e.value)) (node_from k e.style (length text) (length (resolved k e.tag)) (length (value_for k e.value)) start end)
new_right n k e links text start end ok is =
    let w = subst (λ q. Kept (table q) e) is (kept_within e ok) in
    let t = tag_right_lem k e.tag (omega (arith, w.tag, most_tag k)) w.tag_free in
    let at = part_at text (resolved k e.tag) (value_for k e.value) in
    record {
      kind = new_kind k e.style (length text) (length (resolved k e.tag)) (length (value_for k e.value)) start end w.style;
      tag_some = t.0;
      tag_few = t.1;
      tag_free = ap zero_free at ∙ t.2;
      tag_told = ap bang at ∙ t.3;
      value = new_value k e.style (length text) (length (resolved k e.tag)) e.value start end w.value;
      shape = new_shape k e.style (length text) (length (resolved k e.tag)) (length (value_for k e.value)) start end;
      named = refl;
    }

-- all that the tables hold is right
pub record Right (s : St) : Type 0 where
  pub nodes : AllByRecursion (NodeRight (length s.nodes) s.links s.text) s.nodes
  pub waits : every (names (length s.nodes)) s.waiting ≡ true

-- the answers
kind_of_lem : (v : Node) (n : ℕ) (links text : List ℕ) → NodeRight n links text v → Placed links text v → value_right text v ≡ true
kind_of_lem v n links text r p = elim (cases_Bool (eqb v.kind 1)) [
  | inl t ↦ let a : leb v.value_length 4096 ≡ true = rw t at r.value in
      rw t (and_from (leb v.value_length 4096) (lies text v.value_start v.value_length) a (le-leb (v.value_start + v.value_length) (length text) p.value))
  | inr f ↦ let a : (eqb v.value_start 0 && eqb v.value_length 0) ≡ true = rw f at r.value in rw f a
]

links_of_lem : (v : Node) (n : ℕ) (links text : List ℕ) → NodeRight n links text v → Placed links text v → links_right n links v ≡ true
links_of_lem v n links text r p = elim (cases_Bool (eqb v.kind 1)) [
  | inl t ↦ let a : (eqb v.first_link 0 && eqb v.link_count 0) ≡ true = rw t at r.shape in rw t a
  | inr f ↦ let a : (not (eqb v.kind 3) || eqb (v.link_count % 2) 0) ≡ true = rw f at r.shape in
      rw f (and_from (lies links v.first_link v.link_count) _ (le-leb (v.first_link + v.link_count) (length links) p.linked)
      (and_from (not (eqb v.kind 3) || eqb (v.link_count % 2) 0) (every (names n) (links_of links v)) a r.named))
]

tag_of_lem : (v : Node) (n : ℕ) (links text : List ℕ) → NodeRight n links text v → Placed links text v → tag_right text v ≡ true
tag_of_lem v n links text r p =
    and_from (leb 1 v.tag_length) _ (le-leb 1 v.tag_length r.tag_some)
    (and_from (leb v.tag_length 256) _ (le-leb v.tag_length 256 r.tag_few)
    (and_from (lies text v.tag_start v.tag_length) _ (le-leb (v.tag_start + v.tag_length) (length text) p.tag)
    (and_from (zero_free (tag_of text v)) (not (bang (tag_of text v))) r.tag_free (not_from_false (bang (tag_of text v)) r.tag_told))))

every_all : (q : Node → Bool) {P Q : Node → Type 0} → ((v : Node) → P v → Q v → q v ≡ true) → (vs : List Node) → AllByRecursion P vs → AllByRecursion Q vs → every q vs ≡ true
every_all q f [] a b = refl
every_all q f (v ∷ vs) a b = and_from (q v) (every q vs) (f v a.0 b.0) (every_all q f vs a.1 b.1)

pub all_right : (n : ℕ) (vs : List Node) (links text : List ℕ) → AllByRecursion (NodeRight n links text) vs → AllByRecursion (Placed links text) vs
    → (every kind_right vs ≡ true) × (every (tag_right text) vs ≡ true) × (every (value_right text) vs ≡ true) × (every (links_right n links) vs ≡ true)
all_right n vs links text a b = (
  every_all kind_right (λ v r p. r.kind) vs a b,
  every_all (tag_right text) (λ v r p. tag_of_lem v n links text r p) vs a b,
  every_all (value_right text) (λ v r p. kind_of_lem v n links text r p) vs a b,
  every_all (links_right n links) (λ v r p. links_of_lem v n links text r p) vs a b,
)
