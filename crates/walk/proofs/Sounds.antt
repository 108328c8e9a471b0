-- The graph of a Document is sound, in the words of walks and of serializing.
use Rattle.std.proofs.Common.{◌≡◌, ℕ, zero, suc, ◌+◌, ◌%◌, ◌≤◌, true, false, eqb, List, [], ◌∷◌, length, Some, sum_by, refl, ap, ◌∙◌, subst, inl, inr, arith}
use Rattle.std.specs.List.{AllByRecursion}
use Rattle.std.proofs.lemmas.List.Sums.{sum_by-cons}
use Rattle.std.proofs.lemmas.Bool.{or_cases, eqb-true}
use Rattle.model.specs.declared.NodeKind.{NodeKind}
use Rattle.model.specs.declared.NodeKind.TheVariants.{Scalar, Sequence, Mapping}
use Rattle.model.specs.Graph.{Vertex, Book, nth, numbered}
use Rattle.document.specs.Questions.{bang}
use Rattle.document.specs.Sound.{Names, ByKind, IsSoundVertex, link_length, SoundBook}
use Rattle.serial.specs.Walk.{among, is_collection}
use Rattle.serial.specs.Walks.{SoundGraph, sum_all, link_count, weight}
use Rattle.serial.specs.RoundTrip.{SoundVertex, Sound}
use Rattle.serial.proofs.Counts.{weight_total}

all_nth : {X : Type 0} (P : X → Type 0) (xs : List X) (i : ℕ) (x : X) → AllByRecursion P xs → nth xs i ≡ Some x → P x
all_nth P [] i x all e = let z : ◌≡◌ {A = ℕ} 0 1 = cc in absurd (omega arith)
all_nth P (y ∷ ys) zero x all e = let same : y ≡ x = cc in subst P same all.0
all_nth P (y ∷ ys) (suc i) x all e = all_nth P ys i x all.1 e

pub all_numbered : {X : Type 0} (P : X → Type 0) (xs : List X) (v : ℕ) (x : X) → AllByRecursion P xs → numbered xs v ≡ Some x → P x
all_numbered P xs zero x all e = let z : ◌≡◌ {A = ℕ} 0 1 = cc in absurd (omega arith)
all_numbered P xs (suc i) x all e = all_nth P xs i x all e

all_among : (n w : ℕ) (xs : List ℕ) → AllByRecursion (Names n) xs → among w xs ≡ true → (1 ≤ w) × (w ≤ n)
all_among n w [] all e = let z : ◌≡◌ {A = ℕ} 0 1 = cc in absurd (omega arith)
all_among n w (x ∷ xs) all e = elim (or_cases (eqb w x) (among w xs) e) [
  | inl here ↦ (omega (arith, eqb-true w x here, all.0), omega (arith, eqb-true w x here, all.0))
  | inr later ↦ all_among n w xs all.1 later
]

pub total_links : (g : List Vertex) → sum_by link_length g ≡ sum_all link_count g
total_links [] = refl
total_links (x ∷ g) = sum_by-cons link_length x g ∙ ap (λ n. length x.links + n) (total_links g)

links_in_total : (g : List Vertex) (i : ℕ) (x : Vertex) → nth g i ≡ Some x → length x.links ≤ sum_all link_count g
links_in_total [] i x e = let z : ◌≡◌ {A = ℕ} 0 1 = cc in absurd (omega arith)
links_in_total (y ∷ g) zero x e = let same : y ≡ x = cc in omega (arith, ap (λ (v : Vertex). length v.links) same)
links_in_total (y ∷ g) (suc i) x e = omega (arith, links_in_total g i x e)

pub links_few : (b : Book) → SoundBook b → (v : ℕ) (x : Vertex) → numbered b.nodes v ≡ Some x → length x.links ≤ 16384
links_few b s zero x e = let z : ◌≡◌ {A = ℕ} 0 1 = cc in absurd (omega arith)
links_few b s (suc i) x e = omega (arith, links_in_total b.nodes i x e, total_links b.nodes, s.few_links)

-- all steps together are few
pub steps_few : (b : Book) → SoundBook b → sum_all weight b.nodes ≤ 20480
steps_few b s = omega (arith, weight_total b.nodes, total_links b.nodes, s.few_links, s.few)

scalar_ends : (k : NodeKind) (value links : List ℕ) → ByKind k value links → is_collection k ≡ false → links ≡ []
scalar_ends Scalar value links by e = by
scalar_ends Sequence value links by e = let z : ◌≡◌ {A = ℕ} 0 1 = cc in absurd (omega arith)
scalar_ends Mapping value links by e = let z : ◌≡◌ {A = ℕ} 0 1 = cc in absurd (omega arith)

bare : (k : NodeKind) (value links : List ℕ) → ByKind k value links → is_collection k ≡ true → value ≡ []
bare Scalar value links by e = let z : ◌≡◌ {A = ℕ} 0 1 = cc in absurd (omega arith)
bare Sequence value links by e = by
bare Mapping value links by e = by.0

pub paired : (k : NodeKind) (value links : List ℕ) → ByKind k value links → k ≡ Mapping → length links % 2 ≡ 0
paired Scalar value links by e = let z : ◌≡◌ {A = ℕ} 0 1 = cc in absurd (omega arith)
paired Sequence value links by e = let z : ◌≡◌ {A = ℕ} 0 1 = cc in absurd (omega arith)
paired Mapping value links by e = by.1

vertex_sound : (n : ℕ) (x : Vertex) → IsSoundVertex n x → SoundVertex n x
vertex_sound n x s =
    record {
      links_lead = λ w m. all_among n w x.links s.links_name m;
      scalar_ends = λ e. scalar_ends x.look.kind x.look.value x.links s.by_kind e;
      collection_bare = λ e. bare x.look.kind x.look.value x.links s.by_kind e;
      pairs = λ e. paired x.look.kind x.look.value x.links s.by_kind e;
      tagged = λ e. omega (arith, ap length e, s.tag_there);
      tag_told = λ e. let is : bang x.look.tag ≡ true = ap bang e in let isn't = s.tag_not_bang in let z : ◌≡◌ {A = ℕ} 0 1 = cc in omega arith;
    }

pub vertex_at_lem : (b : Book) → SoundBook b → (v : ℕ) (x : Vertex) → numbered b.nodes v ≡ Some x → IsSoundVertex (length b.nodes) x
vertex_at_lem b s v x e = all_numbered (IsSoundVertex (length b.nodes)) b.nodes v x s.each e

pub sound : (b : Book) → SoundBook b → 1 ≤ length b.nodes → Sound b.nodes
sound b s some = record { some = some; each = λ v x e. vertex_sound (length b.nodes) x (vertex_at_lem b s v x e) }

pub sound_graph : (b : Book) → SoundBook b → 1 ≤ length b.nodes → SoundGraph b.nodes
sound_graph b s some =
    record {
      some_node = some;
      links_inside = λ v x e place w m.
          let named = all_numbered (Names (length b.nodes)) x.links place w (vertex_at_lem b s v x e).links_name m in (named.low, named.high);
      leaves = λ v x e no. (vertex_sound (length b.nodes) x (vertex_at_lem b s v x e)).scalar_ends no;
    }
