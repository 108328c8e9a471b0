-- Events compose to one document only.
use Rattle.std.proofs.Common.{◌≡◌, ℕ, true, List, [], ◌∷◌, ◌++◌, sym, refl, ap, ◌∙◌, subst, arith}
use Rattle.model.specs.declared.EventKind.{EventKind}
use Rattle.model.specs.declared.EventKind.TheVariants.{StreamStart, StreamEnd, DocumentStart, DocumentEnd, Alias, Scalar as ScalarEvent, SequenceStart, SequenceEnd, MappingStart, MappingEnd}
use Rattle.model.specs.declared.NodeKind.{NodeKind}
use Rattle.model.specs.declared.NodeKind.TheVariants.{Scalar, Sequence, Mapping}
use Rattle.model.specs.Events.{Ev}
use Rattle.model.specs.Graph.{Vertex}
use Rattle.serial.specs.Walk.{is_collection}
use Rattle.serial.specs.Serialize.{start_kind, end_kind}
use Rattle.serial.specs.Compose.{Frame, frame, Composed, TakesIn, alias, scalar, start, end, TakesAll, beginning, Composes, after_alias, after_scalar, after_start, after_end}

-- what an event does
abbrev turn : EventKind → ℕ
turn StreamStart = 0
turn StreamEnd = 0
turn DocumentStart = 0
turn DocumentEnd = 0
turn Alias = 1
turn ScalarEvent = 2
turn SequenceStart = 3
turn MappingStart = 3
turn SequenceEnd = 4
turn MappingEnd = 4

turn_start : (k : NodeKind) (e : EventKind) → is_collection k ≡ true → e ≡ start_kind k → turn e ≡ 3
turn_start Scalar e c h = let z : ◌≡◌ {A = ℕ} 0 1 = cc in absurd (omega (arith, z))
turn_start Sequence e c h = ap turn h
turn_start Mapping e c h = ap turn h

turn_end : (k : NodeKind) (e : EventKind) → is_collection k ≡ true → e ≡ end_kind k → turn e ≡ 4
turn_end Scalar e c h = let z : ◌≡◌ {A = ℕ} 0 1 = cc in absurd (omega (arith, z))
turn_end Sequence e c h = ap turn h
turn_end Mapping e c h = ap turn h

start_apart : (k l : NodeKind) → start_kind k ≡ start_kind l → k ≡ l
start_apart Scalar Scalar h = refl
start_apart Sequence Sequence h = refl
start_apart Mapping Mapping h = refl
start_apart Scalar Sequence h = let z : ◌≡◌ {A = ℕ} 0 1 = cc in absurd (omega (arith, z))
start_apart Scalar Mapping h = let z : ◌≡◌ {A = ℕ} 0 1 = cc in absurd (omega (arith, z))
start_apart Sequence Scalar h = let z : ◌≡◌ {A = ℕ} 0 1 = cc in absurd (omega (arith, z))
start_apart Sequence Mapping h = let z : ◌≡◌ {A = ℕ} 0 1 = cc in absurd (omega (arith, z))
start_apart Mapping Scalar h = let z : ◌≡◌ {A = ℕ} 0 1 = cc in absurd (omega (arith, z))
start_apart Mapping Sequence h = let z : ◌≡◌ {A = ℕ} 0 1 = cc in absurd (omega (arith, z))

-- the innermost open collection is one
same_front : {fs others others' : List Frame} {u u' : ℕ} {ks ks' : List ℕ} → fs ≡ frame u ks ∷ others → fs ≡ frame u' ks' ∷ others' → (u ≡ u') × (ks ≡ ks') × (others ≡ others')
same_front p q = ((cc), (cc), (cc))

pub one_way : {s t t' : Composed} {e : Ev} → TakesIn s e t → TakesIn s e t' → t ≡ t'
one_way {s = s} (alias {v = v} a b c d f) (alias {v = w} a' b' c' d' f') =
    let p = same_front b b' in let q : v ≡ w = cc in f ∙ (λ i. after_alias s (p.0 i) (p.1 i) (p.2 i) (q i)) ∙ sym f'
one_way {s = s} {e = e} (scalar a b c d f) (scalar a' b' c' d' f') =
    let p = same_front b b' in f ∙ (λ i. after_scalar s (p.0 i) (p.1 i) (p.2 i) e) ∙ sym f'
one_way {s = s} {e = e} (start k h a b c d f) (start l h' a' b' c' d' f') =
    let p = same_front b b' in let q = start_apart k l (sym a ∙ a') in f ∙ (λ i. after_start s (p.0 i) (p.1 i) (p.2 i) (q i) e) ∙ sym f'
one_way {s = s} (end b n c a d f) (end b' n' c' a' d' f') =
    let p = same_front b b' in f ∙ (λ i. after_end s (p.0 i) (p.1 i) (p.2 i)) ∙ sym f'
one_way (alias a b c d f) (scalar a' b' c' d' f') = absurd (omega (arith, ap turn (sym a ∙ a')))
one_way (alias a b c d f) (start k h a' b' c' d' f') = absurd (omega (arith, ap turn a, turn_start k _ h a'))
one_way (alias a b c d f) (end b' n' c' a' d' f') = absurd (omega (arith, ap turn a, turn_end _ _ c' a'))
one_way (scalar a b c d f) (alias a' b' c' d' f') = absurd (omega (arith, ap turn (sym a ∙ a')))
one_way (scalar a b c d f) (start k h a' b' c' d' f') = absurd (omega (arith, ap turn a, turn_start k _ h a'))
one_way (scalar a b c d f) (end b' n' c' a' d' f') = absurd (omega (arith, ap turn a, turn_end _ _ c' a'))
one_way (start k h a b c d f) (alias a' b' c' d' f') = absurd (omega (arith, ap turn a', turn_start k _ h a))
one_way (start k h a b c d f) (scalar a' b' c' d' f') = absurd (omega (arith, ap turn a', turn_start k _ h a))
one_way (start k h a b c d f) (end b' n' c' a' d' f') = absurd (omega (arith, turn_start k _ h a, turn_end _ _ c' a'))
one_way (end b n c a d f) (alias a' b' c' d' f') = absurd (omega (arith, ap turn a', turn_end _ _ c a))
one_way (end b n c a d f) (scalar a' b' c' d' f') = absurd (omega (arith, ap turn a', turn_end _ _ c a))
one_way (end b n c a d f) (start k h a' b' c' d' f') = absurd (omega (arith, turn_start k _ h a', turn_end _ _ c a))

pub one_end : {s t t' : Composed} {es : List Ev} → TakesAll s es t → TakesAll s es t' → t ≡ t'
one_end TakesAll.none TakesAll.none = refl
one_end {t' = t'} (TakesAll.more {es = es} a rest) (TakesAll.more b bs) =
    one_end rest (subst (λ q. TakesAll q es t') (one_way b a) bs)

pub one_document : {es : List Ev} {g h : List Vertex} → Composes es g → Composes es h → g ≡ h
one_document c d = sym c.result ∙ ap (λ s. s.nodes) (one_end c.taken_in d.taken_in) ∙ d.result

-- events taken in two parts
pub takes_append : {s t u : Composed} {es fs : List Ev} → TakesAll s es t → TakesAll t fs u → TakesAll s (es ++ fs) u
takes_append TakesAll.none b = b
takes_append (TakesAll.more a rest) b = TakesAll.more a (takes_append rest b)

pub takes_split : (es fs : List Ev) {s u : Composed} → TakesAll s (es ++ fs) u → (t : Composed) × TakesAll s es t × TakesAll t fs u
takes_split [] fs a = (_, TakesAll.none, a)
takes_split (e ∷ es) fs (TakesAll.more a rest) = let r = takes_split es fs rest in (r.0, TakesAll.more a r.1, r.2)

-- where events compose, each of them is taken in the state that those before it led to
pub each_taken : (es later : List Ev) {e : Ev} {g : List Vertex} {s : Composed} → Composes (es ++ e ∷ later) g → TakesAll beginning es s → (t : Composed) × TakesIn s e t
each_taken es later {e = e} c taken =
    let r = takes_split es (e ∷ later) c.taken_in in first_of (one_end r.1 taken) r.2
  where
    first_of : {s' s u : Composed} → s' ≡ s → TakesAll s' (e ∷ later) u → (t : Composed) × TakesIn s e t
    first_of same (TakesAll.more {t = t} a rest) = (t, subst (λ q. TakesIn q e t) same a)
