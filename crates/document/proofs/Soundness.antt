-- The graph of every Document is sound.
use Rattle.std.proofs.Common.{◌≡◌, ℕ, ◌%◌, ◌≤◌, true, false, not, ◌&&◌, ◌||◌, eqb, leb, List, [], ◌∷◌, length, sum_by, sym, refl, ap, ◌∙◌, subst, ⊎_elim, arith}
use lib.ListN.{length-map}
use Rattle.std.proofs.lemmas.List.{nil_from_length}
use Rattle.std.proofs.ByRecursion.{All-map}
use Rattle.std.proofs.lemmas.List.Sums.{sum_by-cons}
use Rattle.std.proofs.lemmas.Bool.{and_parts, or_cases, leb-true, eqb-true, eq-eqb, ne_eqb, not-true, cond-true, cond-false}
use Rattle.std.specs.List.{AllByRecursion}
use Rattle.model.specs.declared.NodeKind.{NodeKind}
use Rattle.model.specs.declared.NodeKind.TheVariants.{Scalar, Sequence, Mapping}
use Rattle.model.specs.Events.{zero_free}
use Rattle.document.specs.declared.node.Node.{Node}
use Rattle.document.specs.declared.standing.Document.{Document}
use Rattle.std.specs.List.{list_all}
use Rattle.document.specs.Questions.{lies, kind_right, tag_right, value_right, links_right, names, bang, tag_of, value_of, links_of, link_count, text_length, link_total, text_total}
use Rattle.document.specs.Check.{Right}
use Rattle.document.specs.Books.{kind_of, vertex_of, book_of, graph_of}
use Rattle.document.specs.Sound.{most_style_of, Names, ByKind, IsSoundVertex, link_length, text_bytes, SoundBook}
use Rattle.document.proofs.Lookups.{kinds, tag_lies, value_lies, links_lie, length_part}

-- what a tag that is right is
record TagFacts (text : List ℕ) (v : Node) : Type 0 where
  there : 1 ≤ length (tag_of text v)
  short : length (tag_of text v) ≤ 256
  is_zero_free : zero_free (tag_of text v) ≡ true
  not_bang : bang (tag_of text v) ≡ false
  long : length (tag_of text v) ≡ v.tag_length

tag_facts : (text : List ℕ) (v : Node) → tag_right text v ≡ true → TagFacts text v
tag_facts text v e =
    let rest = zero_free (tag_of text v) && not (bang (tag_of text v)) in
    let here = lies text v.tag_start v.tag_length in
    let a = and_parts (leb 1 v.tag_length) (leb v.tag_length 256 && (here && rest)) e in
    let b = and_parts (leb v.tag_length 256) (here && rest) a.1 in
    let d = and_parts (zero_free (tag_of text v)) (not (bang (tag_of text v))) (and_parts here rest b.1).1 in
    let long = length_part text v.tag_start v.tag_length (tag_lies text v e) in
    let low = leb-true 1 v.tag_length a.0 in
    let high = leb-true v.tag_length 256 b.0 in
    record { there = omega arith; short = omega arith; is_zero_free = d.0; not_bang = not-true (bang (tag_of text v)) d.1; long = long }

value_long : (text : List ℕ) (v : Node) → value_right text v ≡ true → length (value_of text v) ≡ v.value_length
value_long text v e = length_part text v.value_start v.value_length (value_lies text v e)

links_long : (n : ℕ) (links : List ℕ) (v : Node) → links_right n links v ≡ true → length (links_of links v) ≡ v.link_count
links_long n links v e = length_part links v.first_link v.link_count (links_lie n links v e)

-- a scalar
scalar_value : (text : List ℕ) (v : Node) → v.kind ≡ 1 → value_right text v ≡ true → length (value_of text v) ≤ 4096
scalar_value text v k e =
    let scalar = leb v.value_length 4096 && lies text v.value_start v.value_length in
    let other = eqb v.value_start 0 && eqb v.value_length 0 in
    let both = and_parts (leb v.value_length 4096) (lies text v.value_start v.value_length) (sym (cond-true (eqb v.kind 1) scalar other (eq-eqb v.kind 1 k)) ∙ e) in
    let long = value_long text v e in
    let short = leb-true v.value_length 4096 both.0 in
    omega arith

scalar_links : (n : ℕ) (links : List ℕ) (v : Node) → v.kind ≡ 1 → links_right n links v ≡ true → links_of links v ≡ []
scalar_links n links v k e =
    let scalar = eqb v.first_link 0 && eqb v.link_count 0 in
    let inner = (not (eqb v.kind 3) || eqb (v.link_count % 2) 0) && list_all (names n) (links_of links v) in
    let other = lies links v.first_link v.link_count && inner in
    let both = and_parts (eqb v.first_link 0) (eqb v.link_count 0) (sym (cond-true (eqb v.kind 1) scalar other (eq-eqb v.kind 1 k)) ∙ e) in
    nil_from_length (links_of links v) (links_long n links v e ∙ eqb-true v.link_count 0 both.1)

-- a collection
collection_value : (text : List ℕ) (v : Node) → (v.kind ≡ 1 → ⊥) → value_right text v ≡ true → value_of text v ≡ []
collection_value text v k e =
    let scalar = leb v.value_length 4096 && lies text v.value_start v.value_length in
    let other = eqb v.value_start 0 && eqb v.value_length 0 in
    let both = and_parts (eqb v.value_start 0) (eqb v.value_length 0) (sym (cond-false (eqb v.kind 1) scalar other (ne_eqb v.kind 1 k)) ∙ e) in
    nil_from_length (value_of text v) (value_long text v e ∙ eqb-true v.value_length 0 both.1)

record LinkFacts (n : ℕ) (links : List ℕ) (v : Node) : Type 0 where
  even : (not (eqb v.kind 3) || eqb (v.link_count % 2) 0) ≡ true
  named : list_all (names n) (links_of links v) ≡ true

collection_links : (n : ℕ) (links : List ℕ) (v : Node) → (v.kind ≡ 1 → ⊥) → links_right n links v ≡ true → LinkFacts n links v
collection_links n links v k e =
    let scalar = eqb v.first_link 0 && eqb v.link_count 0 in
    let even = not (eqb v.kind 3) || eqb (v.link_count % 2) 0 in
    let named = list_all (names n) (links_of links v) in
    let other = lies links v.first_link v.link_count && (even && named) in
    let both = and_parts (lies links v.first_link v.link_count) (even && named) (sym (cond-false (eqb v.kind 1) scalar other (ne_eqb v.kind 1 k)) ∙ e) in
    let two = and_parts even named both.1 in
    record { even = two.0; named = two.1 }

mapping_even : (v : Node) → v.kind ≡ 3 → (not (eqb v.kind 3) || eqb (v.link_count % 2) 0) ≡ true → v.link_count % 2 ≡ 0
mapping_even v k e =
    ⊎_elim
    (λ a. let is = eq-eqb v.kind 3 k in let isn't = not-true (eqb v.kind 3) a in let z : true ≡ false = cc in absurd (let w : ◌≡◌ {A = ℕ} 0 1 = cc in omega arith))
    (λ a. eqb-true (v.link_count % 2) 0 a)
    (or_cases (not (eqb v.kind 3)) (eqb (v.link_count % 2) 0) e)

all_names : (n : ℕ) (ls : List ℕ) → list_all (names n) ls ≡ true → AllByRecursion (Names n) ls
all_names n [] e = tt
all_names n (l ∷ ls) e =
    let both = and_parts (names n l) (list_all (names n) ls) e in
    let two = and_parts (leb 1 l) (leb l n) both.0 in
    (record { low = leb-true 1 l two.0; high = leb-true l n two.1 }, all_names n ls both.1)

-- a vertex with its parts put together
vertex :
    (n : ℕ) (links text : List ℕ) (v : Node) (k : NodeKind) → kind_of v.kind ≡ k → v.style ≤ most_style_of k → TagFacts text v
    → length (value_of text v) ≤ 4096 → AllByRecursion (Names n) (links_of links v) → ByKind k (value_of text v) (links_of links v) → IsSoundVertex n (vertex_of links text v)
vertex n links text v k e style tag short named by =
    record {
      style = subst (λ x. v.style ≤ most_style_of x) (sym e) style;
      tag_there = tag.there;
      tag_short = tag.short;
      tag_zero_free = tag.is_zero_free;
      tag_not_bang = tag.not_bang;
      value_short = short;
      links_name = named;
      by_kind = subst (λ x. ByKind x (value_of text v) (links_of links v)) (sym e) by;
    }

empty_short : (xs : List ℕ) → xs ≡ [] → length xs ≤ 4096
empty_short xs e = let none = ap length e in omega arith

sound_vertex : (n : ℕ) (links text : List ℕ) (v : Node) → Right n links text v → IsSoundVertex n (vertex_of links text v)
sound_vertex n links text v r =
    let tag = tag_facts text v r.tag in
    ⊎_elim
    (λ k.
    let none = scalar_links n links v k.kind r.linked in
    vertex n links text v Scalar (ap kind_of k.kind) k.style tag (scalar_value text v k.kind r.value)
    (subst (AllByRecursion (Names n)) (sym none) tt) none)
    (⊎_elim
    (λ k.
    let other : v.kind ≡ 1 → ⊥ = λ is. let is2 = k.kind in omega arith in
    let none = collection_value text v other r.value in
    let facts = collection_links n links v other r.linked in
    vertex n links text v Sequence (ap kind_of k.kind) k.style tag (empty_short (value_of text v) none) (all_names n (links_of links v) facts.named) none)
    (λ k.
    let other : v.kind ≡ 1 → ⊥ = λ is. let is3 = k.kind in omega arith in
    let none = collection_value text v other r.value in
    let facts = collection_links n links v other r.linked in
    let even = mapping_even v k.kind facts.even in
    vertex n links text v Mapping (ap kind_of k.kind) k.style tag (empty_short (value_of text v) none) (all_names n (links_of links v) facts.named)
    (none, ap (λ m. m % 2) (links_long n links v r.linked) ∙ even)))
    (kinds v r.kind)

-- every vertex
sound_vertices :
    (n : ℕ) (links text : List ℕ) (vs : List Node) → list_all kind_right vs ≡ true → list_all (tag_right text) vs ≡ true → list_all (value_right text) vs ≡ true
    → list_all (links_right n links) vs ≡ true → AllByRecursion (λ v. IsSoundVertex n (vertex_of links text v)) vs
sound_vertices n links text [] a b d e = tt
sound_vertices n links text (v ∷ vs) a b d e =
    let k = and_parts (kind_right v) (list_all kind_right vs) a in
    let t = and_parts (tag_right text v) (list_all (tag_right text) vs) b in
    let w = and_parts (value_right text v) (list_all (value_right text) vs) d in
    let l = and_parts (links_right n links v) (list_all (links_right n links) vs) e in
    (sound_vertex n links text v record { kind = k.0; tag = t.0; value = w.0; linked = l.0 }, sound_vertices n links text vs k.1 t.1 w.1 l.1)

link_sums : (n : ℕ) (links text : List ℕ) (vs : List Node) → list_all (links_right n links) vs ≡ true → sum_by link_length (graph_of vs links text) ≡ link_total vs
link_sums n links text [] e = refl
link_sums n links text (v ∷ vs) e =
    let both = and_parts (links_right n links v) (list_all (links_right n links) vs) e in
    let here = links_long n links v both.0 in
    let rest = link_sums n links text vs both.1 in
    let left = sum_by-cons link_length (vertex_of links text v) (graph_of vs links text) in
    let right = sum_by-cons link_count v vs in
    omega arith

text_sums :
    (links text : List ℕ) (vs : List Node) → list_all (tag_right text) vs ≡ true → list_all (value_right text) vs ≡ true
    → sum_by text_bytes (graph_of vs links text) ≡ text_total vs
text_sums links text [] a b = refl
text_sums links text (v ∷ vs) a b =
    let t = and_parts (tag_right text v) (list_all (tag_right text) vs) a in
    let w = and_parts (value_right text v) (list_all (value_right text) vs) b in
    let tag = (tag_facts text v t.0).long in
    let value = value_long text v w.0 in
    let rest = text_sums links text vs t.1 w.1 in
    let left = sum_by-cons text_bytes (vertex_of links text v) (graph_of vs links text) in
    let right = sum_by-cons text_length v vs in
    omega arith

pub sound_book : (d : Document) → SoundBook (book_of d)
sound_book d =
    let vs = d.nodes.now in
    let links = d.links.now in
    let text = d.text.now in
    let long = length-map vs (vertex_of links text) in
    let few = d.few in
    let sums = link_sums (length vs) links text vs d.linked in
    let bytes = text_sums links text vs d.tags d.values in
    let few_links = d.few_links in
    let few_bytes = d.few_bytes in
    record {
      few = omega arith;
      each =
          subst (λ n. AllByRecursion (IsSoundVertex n) (book_of d).nodes) (sym long)
          (All-map (IsSoundVertex (length vs)) (vertex_of links text) vs (sound_vertices (length vs) links text vs d.kinds d.tags d.values d.linked));
      few_links = omega arith;
      few_bytes = omega arith;
    }
