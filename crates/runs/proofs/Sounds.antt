-- A Document's graph is sound in every sense that walking, serializing and composing ask for.
use Rattle.std.proofs.Common.{◌≡◌, ℕ, zero, suc, ◌%◌, ◌≤◌, true, false, eqb, List, [], ◌∷◌, length, Some, sym, refl, ap, subst, inl, inr, arith}
use Rattle.std.specs.List.{AllByRecursion}
use Rattle.std.proofs.lemmas.Bool.{or_cases, eqb-true, both_ways}
use Rattle.model.specs.declared.NodeKind.{NodeKind}
use Rattle.model.specs.declared.NodeKind.TheVariants.{Scalar, Sequence, Mapping}
use Rattle.model.specs.Events.{table}
use Rattle.model.specs.Graph.{Vertex, Book, nth, numbered}
use Rattle.serial.specs.Walk.{among, is_collection}
use Rattle.serial.specs.Walks.{SoundGraph}
use Rattle.serial.specs.Serialize.{start_kind}
use Rattle.serial.specs.RoundTrip.{SoundVertex, Sound}
use Rattle.serial.specs.Limits.{LooksWithin}
use Rattle.document.specs.Questions.{bang}
use Rattle.document.specs.Sound.{most_style_of, Names, ByKind, IsSoundVertex, SoundBook}

pub all_nth : {X : Type 0} (P : X → Type 0) (xs : List X) (i : ℕ) (x : X) → AllByRecursion P xs → nth xs i ≡ Some x → P x
all_nth P [] i x a e = cc
all_nth P (y ∷ ys) zero x a e = let same : y ≡ x = cc in subst P same a.0
all_nth P (y ∷ ys) (suc i) x a e = all_nth P ys i x a.1 e

pub all_numbered : {X : Type 0} (P : X → Type 0) (xs : List X) (v : ℕ) (x : X) → AllByRecursion P xs → numbered xs v ≡ Some x → P x
all_numbered P xs zero x a e = cc
all_numbered P xs (suc i) x a e = all_nth P xs i x a e

all_among : (P : ℕ → Type 0) (w : ℕ) (xs : List ℕ) → AllByRecursion P xs → among w xs ≡ true → P w
all_among P w [] a e = absurd (both_ways false refl e)
all_among P w (y ∷ ys) a e = elim (or_cases (eqb w y) (among w ys) e) [
  | inl q ↦ subst P (sym (eqb-true w y q)) a.0
  | inr q ↦ all_among P w ys a.1 q
]

no_links : (k : NodeKind) (value links : List ℕ) → ByKind k value links → is_collection k ≡ false → links ≡ []
no_links Scalar value links h c = h
no_links Sequence value links h c = absurd (both_ways true c refl)
no_links Mapping value links h c = absurd (both_ways true c refl)

no_value : (k : NodeKind) (value links : List ℕ) → ByKind k value links → is_collection k ≡ true → value ≡ []
no_value Scalar value links h c = absurd (both_ways false refl c)
no_value Sequence value links h c = h
no_value Mapping value links h c = h.0

even_links : (k : NodeKind) (value links : List ℕ) → ByKind k value links → k ≡ Mapping → length links % 2 ≡ 0
even_links Scalar value links h e = cc
even_links Sequence value links h e = cc
even_links Mapping value links h e = h.1

style_within : (k : NodeKind) (style : ℕ) → style ≤ most_style_of k → style ≤ (table (start_kind k)).most_style
style_within Scalar style h = h
style_within Sequence style h = h
style_within Mapping style h = h

value_within : (k : NodeKind) (value links : List ℕ) → ByKind k value links → length value ≤ 4096 → length value ≤ (table (start_kind k)).most_value
value_within Scalar value links h l = l
value_within Sequence value links h l = omega (arith, ap length h)
value_within Mapping value links h l = omega (arith, ap length h.0)

sound_vertex : (n : ℕ) (x : Vertex) → IsSoundVertex n x → SoundVertex n x
sound_vertex n x s = record {
  links_lead = λ w a. let r = all_among (Names n) w x.links s.links_name a in (r.low, r.high);
  scalar_ends = no_links x.look.kind x.look.value x.links s.by_kind;
  collection_bare = no_value x.look.kind x.look.value x.links s.by_kind;
  pairs = even_links x.look.kind x.look.value x.links s.by_kind;
  tagged = λ e. omega (arith, ap length e, s.tag_there);
  tag_told = λ e. both_ways (bang x.look.tag) s.tag_not_bang (ap bang e);
}

pub sound_nodes : (b : Book) → SoundBook b → 1 ≤ length b.nodes → Sound b.nodes
sound_nodes b s some = record {
  some = some;
  each = λ v x e. sound_vertex (length b.nodes) x (all_numbered (IsSoundVertex (length b.nodes)) b.nodes v x s.each e);
}

pub sound_graph : (b : Book) → SoundBook b → 1 ≤ length b.nodes → SoundGraph b.nodes
sound_graph b s some = record {
  some_node = some;
  links_inside = λ v x e place w f.
      let y = all_numbered (IsSoundVertex (length b.nodes)) b.nodes v x s.each e in
      let r = all_numbered (Names (length b.nodes)) x.links place w y.links_name f in (r.low, r.high);
  leaves = λ v x e.
      let y = all_numbered (IsSoundVertex (length b.nodes)) b.nodes v x s.each e in
      no_links x.look.kind x.look.value x.links y.by_kind;
}

pub looks_within : (b : Book) → SoundBook b → LooksWithin b.nodes
looks_within b s v x e =
    let y = all_numbered (IsSoundVertex (length b.nodes)) b.nodes v x s.each e in
    record {
      style = style_within x.look.kind x.look.style y.style;
      tag_some = y.tag_there;
      tag_length = y.tag_short;
      tag_zero_free = y.tag_zero_free;
      value_length = value_within x.look.kind x.look.value x.links y.by_kind y.value_short;
    }
