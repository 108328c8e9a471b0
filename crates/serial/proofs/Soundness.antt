-- What allowed events compose to is sound.
use Rattle.std.proofs.Common.{◌≡◌, ℕ, zero, suc, ◌%◌, ◌≤◌, true, false, ◌&&◌, ◌||◌, eqb, leb, ◌≢◌, ◌⊎◌, List, [], ◌∷◌, ◌++◌, length, set, Some, codes, sym, refl, ap, ◌∙◌, subst, inl, inr, arith}
use Rattle.std.proofs.lemmas.List.{length-append, length-set, nil_from_length}
use Rattle.std.proofs.lemmas.Bool.{both_ways, eqb-true, leb-true, or_cases, and_parts, cases_Bool, cases_eq}
use Rattle.model.specs.declared.NodeKind.{NodeKind}
use Rattle.model.specs.declared.NodeKind.TheVariants.{Scalar, Sequence, Mapping}
use Rattle.model.specs.Events.{Ev, Row, table, within, zero_free, allowed, all_allowed}
use Rattle.model.specs.Graph.{Vertex, numbered}
use Rattle.serial.specs.Walk.{among, is_collection}
use Rattle.serial.specs.Serialize.{same_bytes, start_kind, default_tag}
use Rattle.serial.specs.Compose.{Frame, frame, Composed, Complete, TakesIn, alias, scalar, start, end, TakesAll, beginning, resolved, look_of, bare_vertex, noted, named}
use Rattle.serial.specs.RoundTrip.{Sound, SoundVertex, ComposedSound}
use Rattle.serial.proofs.Standing.{bytes_same, nth_set}
use Rattle.serial.proofs.Composing.{closed_is, numbered_set_other, one_vertex}

-- tags
default_told : (k : NodeKind) → (default_tag k ≢ []) × (default_tag k ≢ codes "!")
default_told Scalar = ((λ e. omega (arith, ap length e)), λ e. omega (arith, ap length e))
default_told Sequence = ((λ e. omega (arith, ap length e)), λ e. omega (arith, ap length e))
default_told Mapping = ((λ e. omega (arith, ap length e)), λ e. omega (arith, ap length e))

resolved_told : (k : NodeKind) (tag : List ℕ) → (resolved k tag ≢ []) × (resolved k tag ≢ codes "!")
resolved_told k [] = default_told k
resolved_told k (b ∷ bs) = elim (cases_Bool (same_bytes (b ∷ bs) (codes "!"))) [
  | inl t ↦ rw t (default_told k)
  | inr f ↦ rw f ((λ e. omega (arith, ap length e)), λ e. both_ways _ f (subst (λ l. same_bytes (b ∷ bs) l ≡ true) e (bytes_same (b ∷ bs))))
]

-- an allowed start of a collection has no value
value_within : (r : Row) (s f a t v : ℕ) → within r s f a t v ≡ true → v ≤ r.most_value
value_within r s f a t v h =
    let p = (and_parts (leb s r.most_style) _ h).1 in
    let q = (and_parts (leb f r.most_flags) _ p).1 in
    let x = (and_parts (leb r.least_anchor a) _ q).1 in
    let y = (and_parts (leb a r.most_anchor) _ x).1 in
    leb-true v r.most_value (and_parts (leb t r.most_tag) (leb v r.most_value) y).1

most_of : (k : NodeKind) → is_collection k ≡ true → (table (start_kind k)).most_value ≡ 0
most_of Scalar c = let z : ◌≡◌ {A = ℕ} 0 1 = cc in absurd (omega (arith, z))
most_of Sequence c = refl
most_of Mapping c = refl

no_value : (e : Ev) (k : NodeKind) → allowed e ≡ true → e.kind ≡ start_kind k → is_collection k ≡ true → e.value ≡ []
no_value e k h a c =
    let p = value_within (table e.kind) e.style e.flags (length e.anchor) (length e.tag) (length e.value) (and_parts _ (zero_free e.anchor && zero_free e.tag) h).0 in
    nil_from_length e.value (omega (arith, p, ap (λ q. (table q).most_value) a ∙ most_of k c))

-- children that are nodes
abbrev Inside : ℕ → List ℕ → Type 0
Inside n ks = (w : ℕ) → among w ks ≡ true → (1 ≤ w) × (w ≤ n)

inside_grow : (n m : ℕ) (ks : List ℕ) → n ≤ m → Inside n ks → Inside m ks
inside_grow n m ks l i w h = let r = i w h in (r.0, omega (arith, r))

inside_push : (n v : ℕ) (ks : List ℕ) → (1 ≤ v) × (v ≤ n) → Inside n ks → Inside n (ks ++ v ∷ [])
inside_push n v [] b i w h = elim (or_cases (eqb w v) false h) [
  | inl e ↦ let q = eqb-true w v e in (omega (arith, q, b), omega (arith, q, b))
  | inr f ↦ let z : ◌≡◌ {A = ℕ} 0 1 = cc in absurd (omega (arith, z))
]
inside_push n v (k ∷ ks) b i w h = elim (or_cases (eqb w k) (among w (ks ++ v ∷ [])) h) [
  | inl e ↦ i w (or_l e)
  | inr m ↦ inside_push n v ks b (λ u a. i u (or_r u a)) w m
]
  where
    or_l : eqb w k ≡ true → (eqb w k || among w ks) ≡ true
    or_l e = rw e refl

    or_r : (u : ℕ) → among u ks ≡ true → (eqb u k || among u ks) ≡ true
    or_r u a = elim (eqb u k) as (λ b. (b || among u ks) ≡ true) [ true ↦ refl | false ↦ a ]

abbrev AllInside : ℕ → List Frame → Type 0
AllInside n [] = Unit {0}
AllInside n (frame k ks ∷ frames) = Inside n ks × AllInside n frames

all_grow : (n m : ℕ) (frames : List Frame) → n ≤ m → AllInside n frames → AllInside m frames
all_grow n m [] l i = tt
all_grow n m (frame k ks ∷ frames) l i = (inside_grow n m ks l i.0, all_grow n m frames l i.1)

abbrev NamesInside : ℕ → List (List ℕ × ℕ) → Type 0
NamesInside n ns = (a : List ℕ) (v : ℕ) → named a ns ≡ Some v → (1 ≤ v) × (v ≤ n)

names_grow : (n m : ℕ) (ns : List (List ℕ × ℕ)) → n ≤ m → NamesInside n ns → NamesInside m ns
names_grow n m ns l i a v h = let r = i a v h in (r.0, omega (arith, r))

names_noted : (n v : ℕ) (a : List ℕ) (ns : List (List ℕ × ℕ)) → (1 ≤ v) × (v ≤ n) → NamesInside n ns → NamesInside n (noted a v ns)
names_noted n v [] ns b i c w h = i c w h
names_noted n v (x ∷ xs) ns b i c w h = elim (cases_Bool (same_bytes c (x ∷ xs))) [
  | inl t ↦ let e : Some v ≡ Some w = rw t at h in let q : v ≡ w = cc in (omega (arith, q, b), omega (arith, q, b))
  | inr f ↦ i c w (rw f at h)
]

-- a state whose nodes are sound, whose children and anchors are nodes
record Whole (s : Composed) : Type 0 where
  nodes : (v : ℕ) (x : Vertex) → numbered s.nodes v ≡ Some x → SoundVertex (length s.nodes) x
  children : AllInside (length s.nodes) s.open_ones
  anchors : NamesInside (length s.nodes) s.names

sound_grow : (n m : ℕ) (x : Vertex) → n ≤ m → SoundVertex n x → SoundVertex m x
sound_grow n m x l s = record { links_lead = inside_grow n m x.links l s.links_lead; scalar_ends = s.scalar_ends; collection_bare = s.collection_bare; pairs = s.pairs; tagged = s.tagged; tag_told = s.tag_told }

new_sound : (n : ℕ) (k : NodeKind) (e : Ev) → (is_collection k ≡ true → e.value ≡ []) → SoundVertex n (bare_vertex (look_of k e))
new_sound n k e bare = record {
  links_lead = λ w h. let z : ◌≡◌ {A = ℕ} 0 1 = cc in absurd (omega (arith, z));
  scalar_ends = λ c. refl;
  collection_bare = bare;
  pairs = λ q. refl;
  tagged = (resolved_told k e.tag).0;
  tag_told = (resolved_told k e.tag).1;
}

numbered_push : (xs : List Vertex) (y : Vertex) (v : ℕ) (x : Vertex) → numbered (xs ++ y ∷ []) v ≡ Some x → (numbered xs v ≡ Some x) ⊎ (x ≡ y)
numbered_push xs y zero x h = inl h
numbered_push [] y (suc zero) x h = inr (cc)
numbered_push [] y (suc (suc i)) x h = inl h
numbered_push (z ∷ xs) y (suc zero) x h = inl h
numbered_push (z ∷ xs) y (suc (suc i)) x h = numbered_push xs y (suc i) x h

nodes_push : (g : List Vertex) (y : Vertex) → SoundVertex (suc (length g)) y → ((v : ℕ) (x : Vertex) → numbered g v ≡ Some x → SoundVertex (length g) x)
    → (v : ℕ) (x : Vertex) → numbered (g ++ y ∷ []) v ≡ Some x → SoundVertex (suc (length g)) x
nodes_push g y new all v x h = elim (numbered_push g y v x h) [
  | inl e ↦ sound_grow (length g) (suc (length g)) x (omega arith) (all v x e)
  | inr e ↦ subst (SoundVertex (suc (length g))) (sym e) new
]

front_inside : (n : ℕ) {u : ℕ} {ks : List ℕ} {fs others : List Frame} → fs ≡ frame u ks ∷ others → AllInside n fs → Inside n ks × AllInside n others
front_inside n e i = subst (AllInside n) e i

complete_pairs : (k : NodeKind) (ks : List ℕ) → Complete k ks → k ≡ Mapping → length ks % 2 ≡ 0
complete_pairs Scalar ks c e = absurd c
complete_pairs Sequence ks c e = let z : ◌≡◌ {A = ℕ} 0 1 = cc in absurd (omega (arith, z))
complete_pairs Mapping ks c e = c

size_push : (g : List Vertex) (y : Vertex) → length (g ++ y ∷ []) ≡ suc (length g)
size_push g y = length-append g (y ∷ []) ∙ omega arith

whole_step : {s t : Composed} {e : Ev} → TakesIn s e t → allowed e ≡ true → Whole s → Whole t
whole_step {s = s} (alias {v = v} {children = ks} {frames = frames} a b c d f) h w =
    let n : ℕ = length s.nodes in
    let p = front_inside n b w.children in
    rw f (record { nodes = w.nodes; anchors = w.anchors; children = (inside_push n v ks (w.anchors _ v d) p.0, p.1) })
whole_step {s = s} {e = e} (scalar {u = u} {children = ks} {frames = frames} a b c d f) h w =
    let n : ℕ = length s.nodes in
    let p = front_inside n b w.children in
    let y : Vertex = bare_vertex (look_of Scalar e) in
    let at : (1 ≤ suc n) × (suc n ≤ suc n) = (omega arith, omega arith) in
    rw f (record {
      nodes = rw (size_push s.nodes y) (nodes_push s.nodes y (new_sound (suc n) Scalar e (λ q. let z : ◌≡◌ {A = ℕ} 0 1 = cc in absurd (omega (arith, z)))) w.nodes);
      anchors = rw (size_push s.nodes y) (names_noted (suc n) (suc n) e.anchor s.names at (names_grow n (suc n) s.names (omega arith) w.anchors));
      children = subst (λ m. AllInside m (frame u (ks ++ suc n ∷ []) ∷ frames)) (sym (size_push s.nodes y)) (inside_push (suc n) (suc n) ks at (inside_grow n (suc n) ks (omega arith) p.0), all_grow n (suc n) frames (omega arith) p.1);
    })
whole_step {s = s} {e = e} (start {u = u} {children = ks} {frames = frames} k q a b c d f) h w =
    let n : ℕ = length s.nodes in
    let p = front_inside n b w.children in
    let y : Vertex = bare_vertex (look_of k e) in
    let at : (1 ≤ suc n) × (suc n ≤ suc n) = (omega arith, omega arith) in
    rw f (record {
      nodes = rw (size_push s.nodes y) (nodes_push s.nodes y (new_sound (suc n) k e (no_value e k h a)) w.nodes);
      anchors = rw (size_push s.nodes y) (names_noted (suc n) (suc n) e.anchor s.names at (names_grow n (suc n) s.names (omega arith) w.anchors));
      children = subst (λ m. AllInside m (frame (suc n) [] ∷ (frame u (ks ++ suc n ∷ []) ∷ frames))) (sym (size_push s.nodes y)) ((λ u m. let z : ◌≡◌ {A = ℕ} 0 1 = cc in absurd (omega (arith, z))), (inside_push (suc n) (suc n) ks at (inside_grow n (suc n) ks (omega arith) p.0), all_grow n (suc n) frames (omega arith) p.1));
    })
whole_step {s = s} {t = t} (end {v = v} {children = ks} {frames = frames} {x = x} b i c a d f) h w =
    let n : ℕ = length s.nodes in
    let p = front_inside n b w.children in
    let y : Vertex = record { look = x.look; links = ks } in
    let old = w.nodes (suc v) x i in
    let new : SoundVertex n y = record { links_lead = p.0; scalar_ends = λ q. absurd (both_ways _ q c); collection_bare = old.collection_bare; pairs = complete_pairs x.look.kind ks d; tagged = old.tagged; tag_told = old.tag_told } in
    let g : List Vertex = set s.nodes v y in
    let after : Composed = record { nodes = g; names = s.names; open_ones = frames } in
    let is : t ≡ after = f ∙ (λ j. record { nodes = closed_is s.nodes v x ks i j; names = s.names; open_ones = frames }) in
    let all : (u : ℕ) (z : Vertex) → numbered g u ≡ Some z → SoundVertex n z = λ u z q. elim (cases_eq u (suc v)) [
      | inl e ↦ subst (SoundVertex n) (one_vertex (numbered g u) y z (ap (numbered g) e ∙ nth_set s.nodes v x y i) q) new
      | inr m ↦ w.nodes u z (sym (numbered_set_other s.nodes v u y m) ∙ q)
    ] in
    rw is (record {
      nodes = rw (length-set s.nodes v y) all;
      anchors = rw (length-set s.nodes v y) w.anchors;
      children = subst (λ m. AllInside m frames) (sym (length-set s.nodes v y)) p.1;
    })

whole_all : {s t : Composed} {es : List Ev} → TakesAll s es t → all_allowed es ≡ true → Whole s → Whole t
whole_all TakesAll.none h w = w
whole_all (TakesAll.more {e = e} {es = es} a rest) h w = let p = and_parts (allowed e) (all_allowed es) h in whole_all rest p.1 (whole_step a p.0 w)

whole_first : Whole beginning
whole_first = record {
  nodes = λ v x h. none v x h;
  children = ((λ w h. let z : ◌≡◌ {A = ℕ} 0 1 = cc in absurd (omega (arith, z))), tt);
  anchors = λ a v h. let z : ◌≡◌ {A = ℕ} 0 1 = cc in absurd (omega (arith, z));
}
  where
    none : (v : ℕ) (x : Vertex) → numbered [] v ≡ Some x → SoundVertex 0 x
    none zero x h = let z : ◌≡◌ {A = ℕ} 0 1 = cc in absurd (omega (arith, z))
    none (suc i) x h = let z : ◌≡◌ {A = ℕ} 0 1 = cc in absurd (omega (arith, z))

pub composed_sound : ComposedSound
composed_sound es g h c =
    let w = whole_all c.taken_in h whole_first in
    let p = front_inside (length c.end_state.nodes) c.complete w.children in
    let sound : Sound c.end_state.nodes = record { some = (p.0 1 refl).1; each = w.nodes } in
    subst Sound c.result sound
