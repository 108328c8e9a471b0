-- The walk that composing went along.
use Rattle.std.proofs.Common.{◌≡◌, ℕ, zero, suc, ◌<◌, ◌≤◌, true, false, eqb, List, [], ◌∷◌, ◌++◌, length, set, Some, None, Option, sym, refl, ap, ◌∙◌, subst, ap₂, inl, inr, arith}
use Rattle.std.proofs.lemmas.List.{append_assoc, append-nil, length-append, length-set}
use Rattle.std.proofs.lemmas.Bool.{cases_Bool, cases_eq, eq-eqb, ne_eqb, or_left, or_right, or_from}
use Rattle.model.specs.declared.NodeKind.TheVariants.{Scalar}
use Rattle.model.specs.Events.{Ev}
use Rattle.model.specs.Graph.{Vertex, nth, numbered}
use Rattle.serial.specs.Walk.{Token, first, again, leave, Spot, spot, among, is_collection, met, leaf, into, out, Steps}
use Rattle.serial.specs.Walks.{SoundGraph}
use Rattle.serial.specs.Serialize.{same_bytes}
use Rattle.serial.specs.Compose.{Frame, frame, Composed, named, noted, bare_vertex, look_of, closed, TakesIn, alias, scalar, start, end, TakesAll, beginning}
use Rattle.serial.specs.RoundTrip.{Sound}
use Rattle.serial.proofs.Standing.{nth_left, nth_push, nth_set}
use Rattle.serial.proofs.Composing.{closed_is, numbered_set_other, one_vertex}
use Rattle.serial.proofs.Determined.{walk_same}
use Rattle.serial.proofs.Reaches.{met_led}
use Rattle.serial.proofs.Soundness.{composed_sound}
use Rattle.loads.specs.Order.{down_from, Walked, ComposedWalk, ComposedOrder, ComposedLed}

-- numbers
numbered_left : (xs ys : List Vertex) (v : ℕ) (x : Vertex) → numbered xs v ≡ Some x → numbered (xs ++ ys) v ≡ Some x
numbered_left xs ys zero x h = cc
numbered_left xs ys (suc i) x h = nth_left xs ys i x h

numbered_within : (g : List Vertex) (v : ℕ) (x : Vertex) → numbered g v ≡ Some x → (1 ≤ v) × (v ≤ length g)
numbered_within g zero x h = cc
numbered_within [] (suc i) x h = cc
numbered_within (y ∷ g) (suc zero) x h = (omega arith, omega arith)
numbered_within (y ∷ g) (suc (suc i)) x h = let r = numbered_within g (suc i) x h in (omega arith, omega (arith, r))

among_down : (n v : ℕ) → 1 ≤ v → v ≤ n → among v (down_from n) ≡ true
among_down zero v a b = absurd (omega arith)
among_down (suc n) v a b = elim (cases_eq v (suc n)) [
  | inl e ↦ or_left (eqb v (suc n)) (among v (down_from n)) (eq-eqb v (suc n) e)
  | inr d ↦ or_right (eqb v (suc n)) (among v (down_from n)) (among_down n v a (omega (arith, d)))
]

not_down : (n v : ℕ) → n < v → among v (down_from n) ≡ false
not_down zero v h = refl
not_down (suc n) v h = or_from (eqb v (suc n)) (among v (down_from n)) (ne_eqb v (suc n) (λ e. omega arith)) (not_down n v (omega arith))

-- the open collections have falling numbers, below a bound
abbrev Falling : ℕ → List Frame → Type 0
Falling n [] = Unit {0}
Falling n (frame k ks ∷ fs) = (k < n) × Falling k fs

falling_more : (n m : ℕ) (fs : List Frame) → n ≤ m → Falling n fs → Falling m fs
falling_more n m [] l h = tt
falling_more n m (frame k ks ∷ fs) l h = (omega (arith, h.0), h.1)

falling_length : (n : ℕ) (fs : List Frame) → Falling n fs → length fs ≤ n
falling_length n [] h = omega arith
falling_length n (frame k ks ∷ fs) h = omega (arith, h.0, falling_length k fs h.1)

-- none of them is v
abbrev Shut : ℕ → List Frame → Type 0
Shut v [] = Unit {0}
Shut v (frame k ks ∷ fs) = (v ≡ k → ⊥) × Shut v fs

falling_shut : (n v : ℕ) (fs : List Frame) → n ≤ v → Falling n fs → Shut v fs
falling_shut n v [] l h = tt
falling_shut n v (frame k ks ∷ fs) l h = ((λ e. omega (arith, h.0)), falling_shut k v fs (omega (arith, h.0)) h.1)

record Base (s : Composed) : Type 0 where
  falling : Falling (suc (length s.nodes)) s.open_ones
  known : (a : List ℕ) (v : ℕ) → named a s.names ≡ Some v → (1 ≤ v) × (v ≤ length s.nodes)

known_noted : (n v : ℕ) (a : List ℕ) (ns : List (List ℕ × ℕ)) → (1 ≤ v) × (v ≤ n) → ((c : List ℕ) (w : ℕ) → named c ns ≡ Some w → (1 ≤ w) × (w ≤ n)) → (c : List ℕ) (w : ℕ) → named c (noted a v ns) ≡ Some w → (1 ≤ w) × (w ≤ n)
known_noted n v [] ns b i c w h = i c w h
known_noted n v (x ∷ xs) ns b i c w h = elim (cases_Bool (same_bytes c (x ∷ xs))) [
  | inl t ↦ let e : Some v ≡ Some w = rw t at h in let q : v ≡ w = cc in (omega (arith, q, b), omega (arith, q, b))
  | inr f ↦ i c w (rw f at h)
]

falling_as : (n : ℕ) {k : ℕ} {ks : List ℕ} {fs others : List Frame} → fs ≡ frame k ks ∷ others → Falling n fs → (k < n) × Falling k others
falling_as n e h = subst (Falling n) e h

closed_length : (g : List Vertex) (v : ℕ) (x : Vertex) (ks : List ℕ) → numbered g (suc v) ≡ Some x → length (closed g (suc v) ks) ≡ length g
closed_length g v x ks h = ap length (closed_is g v x ks h) ∙ length-set g v _

base_step : {s t : Composed} {e : Ev} → TakesIn s e t → Base s → Base t
base_step (alias kind was takes known is) b = rw is (record { falling = falling_as _ was b.falling; known = b.known })
base_step {s = s} {e = e} (scalar kind was takes new is) b =
    let n = length-append s.nodes (bare_vertex (look_of Scalar e) ∷ []) in
    let f = falling_as _ was b.falling in
    rw is (record {
      falling = (omega (arith, f.0), f.1);
      known = known_noted (length (s.nodes ++ bare_vertex (look_of Scalar e) ∷ [])) (suc (length s.nodes)) e.anchor s.names (omega arith, omega arith) (λ c w h. let r = b.known c w h in (r.0, omega (arith, r)));
    })
base_step {s = s} {e = e} (start k collection kind was takes new is) b =
    let n = length-append s.nodes (bare_vertex (look_of k e) ∷ []) in
    let f = falling_as _ was b.falling in
    rw is (record {
      falling = (omega arith, (omega (arith, f.0), f.1));
      known = known_noted (length (s.nodes ++ bare_vertex (look_of k e) ∷ [])) (suc (length s.nodes)) e.anchor s.names (omega arith, omega arith) (λ c w h. let r = b.known c w h in (r.0, omega (arith, r)));
    })
base_step {s = s} (end {v = v} {children = ks} {frames = fs} {x = x} was here collection kind whole is) b =
    let n = closed_length s.nodes v x ks here in
    let f = falling_as _ was b.falling in
    rw is (record {
      falling = falling_more (suc v) (suc (length (closed s.nodes (suc v) ks))) fs (omega (arith, f.0, n)) f.1;
      known = λ c w h. let r = b.known c w h in (r.0, omega (arith, r, n));
    })

-- a node that is not open stays as it is, and every look stays
shut_as : (v : ℕ) {k : ℕ} {ks : List ℕ} {fs others : List Frame} → fs ≡ frame k ks ∷ others → Shut v fs → (v ≡ k → ⊥) × Shut v others
shut_as v e h = subst (Shut v) e h

stays_step : {s t : Composed} {e : Ev} → TakesIn s e t → (v : ℕ) (x : Vertex) → numbered s.nodes v ≡ Some x → Shut v s.open_ones → (numbered t.nodes v ≡ Some x) × Shut v t.open_ones
stays_step (alias kind was takes known is) v x here shut = rw is (here, shut_as v was shut)
stays_step {s = s} {e = e} (scalar kind was takes new is) v x here shut = rw is (numbered_left s.nodes _ v x here, shut_as v was shut)
stays_step {s = s} {e = e} (start k collection kind was takes new is) v x here shut =
    rw is (numbered_left s.nodes _ v x here, ((λ q. omega (arith, numbered_within s.nodes v x here)), shut_as v was shut))
stays_step {s = s} (end {v = w} {children = ks} {x = y} was there collection kind whole is) v x here shut =
    let p = shut_as v was shut in
    rw is (ap (λ g. numbered g v) (closed_is s.nodes w y ks there) ∙ numbered_set_other s.nodes w v _ p.0 ∙ here, p.1)

stays : {s t : Composed} {es : List Ev} → TakesAll s es t → (v : ℕ) (x : Vertex) → numbered s.nodes v ≡ Some x → Shut v s.open_ones → numbered t.nodes v ≡ Some x
stays TakesAll.none v x here shut = here
stays (TakesAll.more a rest) v x here shut = let p = stays_step a v x here shut in stays rest v x p.0 p.1

look_step : {s t : Composed} {e : Ev} → TakesIn s e t → (v : ℕ) (x : Vertex) → numbered s.nodes v ≡ Some x → (y : Vertex) × (numbered t.nodes v ≡ Some y) × (y.look ≡ x.look)
look_step (alias kind was takes known is) v x here = (x, rw is here, refl)
look_step {s = s} (scalar kind was takes new is) v x here = (x, rw is (numbered_left s.nodes _ v x here), refl)
look_step {s = s} (start k collection kind was takes new is) v x here = (x, rw is (numbered_left s.nodes _ v x here), refl)
look_step {s = s} (end {v = w} {children = ks} {x = y} was there collection kind whole is) v x here =
    let new : Vertex = record { look = y.look; links = ks } in
    let at = ap (λ q. numbered q.nodes v) is ∙ ap (λ g. numbered g v) (closed_is s.nodes w y ks there) in
    elim (cases_eq v (suc w)) [
      | inl e ↦ (
        new,
        at ∙ ap (numbered (set s.nodes w new)) e ∙ nth_set s.nodes w y new there,
        ap (λ q. q.look) (one_vertex (numbered s.nodes (suc w)) y x there (ap (numbered s.nodes) (sym e) ∙ here)),
      )
      | inr d ↦ (x, at ∙ numbered_set_other s.nodes w v new d ∙ here, refl)
    ]

looks : {s t : Composed} {es : List Ev} → TakesAll s es t → (v : ℕ) (x : Vertex) → numbered s.nodes v ≡ Some x → (y : Vertex) × (numbered t.nodes v ≡ Some y) × (y.look ≡ x.look)
looks TakesAll.none v x here = (x, here, refl)
looks (TakesAll.more a rest) v x here =
    let p = look_step a v x here in let q = looks rest v p.0 p.1 in (q.0, q.1, q.2 ∙ p.2)

grow_step : {s t : Composed} {e : Ev} → TakesIn s e t → length s.nodes ≤ length t.nodes
grow_step (alias kind was takes known is) = rw is (omega arith)
grow_step {s = s} {e = e} (scalar kind was takes new is) = rw is (omega (arith, length-append s.nodes (bare_vertex (look_of Scalar e) ∷ [])))
grow_step {s = s} {e = e} (start k collection kind was takes new is) = rw is (omega (arith, length-append s.nodes (bare_vertex (look_of k e) ∷ [])))
grow_step {s = s} (end {v = v} {children = ks} {x = x} was here collection kind whole is) = rw is (omega (arith, closed_length s.nodes v x ks here))

grow : {s t : Composed} {es : List Ev} → TakesAll s es t → length s.nodes ≤ length t.nodes
grow TakesAll.none = omega arith
grow (TakesAll.more a rest) = omega (arith, grow_step a, grow rest)

-- the children of a node in the end; the document's is the root
abbrev links_in : Option Vertex → List ℕ
links_in None = []
links_in (Some x) = x.links

abbrev children_of : List Vertex → ℕ → List ℕ
children_of g zero = 1 ∷ []
children_of g (suc v) = links_in (numbered g (suc v))

-- the walk's open collections are the composing's, each with the children that are still to come
abbrev Fit : List Vertex → List Frame → List Spot → Type 0
Fit g [] [] = Unit {0}
Fit g [] (p ∷ ps) = ⊥
Fit g (f ∷ fs) [] = ⊥
Fit g (frame k ks ∷ fs) (spot u rest ∷ ps) = (k ≡ u) × (children_of g k ≡ ks ++ rest) × Fit g fs ps

fit_length : (g : List Vertex) (fs : List Frame) (ps : List Spot) → Fit g fs ps → length ps ≡ length fs
fit_length g [] [] h = refl
fit_length g [] (p ∷ ps) h = absurd h
fit_length g (f ∷ fs) [] h = absurd h
fit_length g (frame k ks ∷ fs) (spot u rest ∷ ps) h = ap suc (fit_length g fs ps h.2)

record Onward (g : List Vertex) (s : Composed) : Type 0 where
  stack : List Spot
  some : 1 ≤ length stack
  fit : Fit g s.open_ones stack
  tokens : List Token
  steps : Steps g (length g) stack (down_from (length s.nodes)) (spot 0 [] ∷ []) (down_from (length g)) tokens

-- one step back
down_push : (g : List Vertex) (x : Vertex) → down_from (length (g ++ x ∷ [])) ≡ suc (length g) ∷ down_from (length g)
down_push g x = let e : length (g ++ x ∷ []) ≡ suc (length g) = omega (arith, length-append g (x ∷ [])) in ap down_from e

module _ (g : List Vertex) where
  back_alias : (s : Composed) (k v : ℕ) (ks : List ℕ) (fs : List Frame) → s.open_ones ≡ frame k ks ∷ fs → (1 ≤ v) × (v ≤ length s.nodes)
      → (stack : List Spot) → length stack ≤ suc (length g) → Fit g (frame k (ks ++ v ∷ []) ∷ fs) stack → (ts : List Token)
      → Steps g (length g) stack (down_from (length s.nodes)) (spot 0 [] ∷ []) (down_from (length g)) ts → Onward g s
  back_alias s k v ks fs was inside [] few fit ts steps = absurd fit
  back_alias s k v ks fs was inside (spot u rest ∷ ps) few fit ts steps = record {
    stack = spot u (v ∷ rest) ∷ ps;
    some = omega arith;
    fit = subst (λ l. Fit g l (spot u (v ∷ rest) ∷ ps)) (sym was) (fit.0, fit.1 ∙ append_assoc ks (v ∷ []) rest, fit.2);
    tokens = again v ∷ ts;
    steps = Steps.more (met (among_down (length s.nodes) v inside.0 inside.1)) few steps;
  }

  back_scalar : (s : Composed) (k : ℕ) (ks : List ℕ) (fs : List Frame) (y : Vertex) → s.open_ones ≡ frame k ks ∷ fs
      → numbered g (suc (length s.nodes)) ≡ Some y → is_collection y.look.kind ≡ false
      → (stack : List Spot) → length stack ≤ suc (length g) → Fit g (frame k (ks ++ suc (length s.nodes) ∷ []) ∷ fs) stack → (ts : List Token)
      → Steps g (length g) stack (suc (length s.nodes) ∷ down_from (length s.nodes)) (spot 0 [] ∷ []) (down_from (length g)) ts → Onward g s
  back_scalar s k ks fs y was here plain [] few fit ts steps = absurd fit
  back_scalar s k ks fs y was here plain (spot u rest ∷ ps) few fit ts steps =
      let n : ℕ = suc (length s.nodes) in
      record {
        stack = spot u (n ∷ rest) ∷ ps;
        some = omega arith;
        fit = subst (λ l. Fit g l (spot u (n ∷ rest) ∷ ps)) (sym was) (fit.0, fit.1 ∙ append_assoc ks (n ∷ []) rest, fit.2);
        tokens = first n ∷ ts;
        steps = Steps.more (leaf (not_down (length s.nodes) n (omega arith)) here plain) few steps;
      }

  back_start : (s : Composed) (k : ℕ) (ks : List ℕ) (fs : List Frame) (y : Vertex) → s.open_ones ≡ frame k ks ∷ fs
      → numbered g (suc (length s.nodes)) ≡ Some y → is_collection y.look.kind ≡ true
      → (stack : List Spot) → length stack ≤ suc (length g) → Fit g (frame (suc (length s.nodes)) [] ∷ (frame k (ks ++ suc (length s.nodes) ∷ []) ∷ fs)) stack → (ts : List Token)
      → Steps g (length g) stack (suc (length s.nodes) ∷ down_from (length s.nodes)) (spot 0 [] ∷ []) (down_from (length g)) ts → Onward g s
  back_start s k ks fs y was here inner [] few fit ts steps = absurd fit
  back_start s k ks fs y was here inner (spot w rest₁ ∷ []) few fit ts steps = absurd fit.2
  back_start s k ks fs y was here inner (spot w rest₁ ∷ (spot u rest ∷ ps)) few fit ts steps =
      let n : ℕ = suc (length s.nodes) in
      let links : rest₁ ≡ y.links = sym fit.1 ∙ ap links_in here in
      let inside : spot w rest₁ ∷ (spot u rest ∷ ps) ≡ spot n y.links ∷ (spot u rest ∷ ps) = ap₂ (λ a b. spot a b ∷ (spot u rest ∷ ps)) (sym fit.0) links in
      record {
        stack = spot u (n ∷ rest) ∷ ps;
        some = omega arith;
        fit = subst (λ l. Fit g l (spot u (n ∷ rest) ∷ ps)) (sym was) (fit.2.0, fit.2.1 ∙ append_assoc ks (n ∷ []) rest, fit.2.2);
        tokens = first n ∷ ts;
        steps = Steps.more (into (not_down (length s.nodes) n (omega arith)) here inner) few
            (subst (λ q. Steps g (length g) q (n ∷ down_from (length s.nodes)) (spot 0 [] ∷ []) (down_from (length g)) ts) inside steps);
      }

  back_end : (s : Composed) (v : ℕ) (ks : List ℕ) (fs : List Frame) (y : Vertex) → s.open_ones ≡ frame (suc v) ks ∷ fs → numbered g (suc v) ≡ Some y → y.links ≡ ks
      → (stack : List Spot) → 1 ≤ length stack → length stack ≤ suc (length g) → Fit g fs stack → (ts : List Token)
      → Steps g (length g) stack (down_from (length s.nodes)) (spot 0 [] ∷ []) (down_from (length g)) ts → Onward g s
  back_end s v ks fs y was here links [] some few fit ts steps = absurd (omega arith)
  back_end s v ks fs y was here links (spot u rest ∷ ps) some few fit ts steps = record {
    stack = spot (suc v) [] ∷ (spot u rest ∷ ps);
    some = omega arith;
    fit = subst (λ l. Fit g l (spot (suc v) [] ∷ (spot u rest ∷ ps))) (sym was) (refl, ap links_in here ∙ links ∙ sym (append-nil ks), fit);
    tokens = leave (suc v) ∷ ts;
    steps = Steps.more out few steps;
  }

few_stack : {s t : Composed} {es : List Ev} (ps : List Spot) → TakesAll s es t → Base s → Fit t.nodes s.open_ones ps → length ps ≤ suc (length t.nodes)
few_stack {s = s} {t = t} ps a b fit = omega (arith, fit_length t.nodes s.open_ones ps fit, falling_length (suc (length s.nodes)) s.open_ones b.falling, grow a)

onward : {s t : Composed} {es : List Ev} → TakesAll s es t → Base s → t.open_ones ≡ frame 0 (1 ∷ []) ∷ [] → Onward t.nodes s
onward {s = s} TakesAll.none b whole = record {
  stack = spot 0 [] ∷ [];
  some = omega arith;
  fit = subst (λ l. Fit s.nodes l (spot 0 [] ∷ [])) (sym whole) (refl, refl, tt);
  tokens = [];
  steps = Steps.none;
}
onward {t = t} (TakesAll.more {s = s} {t = u} a rest) b whole = by_step a (base_step a b) (onward rest (base_step a b) whole)
  where
    by_step : {e : Ev} → TakesIn s e u → Base u → Onward t.nodes u → Onward t.nodes s
    by_step (alias {u = k} {v = v} {children = ks} {frames = fs} kind was takes known is) b' o =
        back_alias t.nodes s k v ks fs was (b.known _ v known) o.stack (few_stack o.stack rest b' o.fit) (subst (λ q. Fit t.nodes q.open_ones o.stack) is o.fit) o.tokens
        (subst (λ q. Steps t.nodes (length t.nodes) o.stack (down_from (length q.nodes)) (spot 0 [] ∷ []) (down_from (length t.nodes)) o.tokens) is o.steps)
    by_step {e = e} (scalar {u = k} {children = ks} {frames = fs} kind was takes new is) b' o =
        let x : Vertex = bare_vertex (look_of Scalar e) in
        let r = looks rest (suc (length s.nodes)) x (ap (λ q. numbered q.nodes (suc (length s.nodes))) is ∙ nth_push s.nodes x) in
        back_scalar t.nodes s k ks fs r.0 was r.1 (ap (λ l. is_collection l.kind) r.2) o.stack (few_stack o.stack rest b' o.fit)
        (subst (λ q. Fit t.nodes q.open_ones o.stack) is o.fit) o.tokens
        (subst (λ l. Steps t.nodes (length t.nodes) o.stack l (spot 0 [] ∷ []) (down_from (length t.nodes)) o.tokens) (ap (λ q. down_from (length q.nodes)) is ∙ down_push s.nodes x) o.steps)
    by_step {e = e} (start {u = k} {children = ks} {frames = fs} c collection kind was takes new is) b' o =
        let x : Vertex = bare_vertex (look_of c e) in
        let r = looks rest (suc (length s.nodes)) x (ap (λ q. numbered q.nodes (suc (length s.nodes))) is ∙ nth_push s.nodes x) in
        back_start t.nodes s k ks fs r.0 was r.1 (ap (λ l. is_collection l.kind) r.2 ∙ collection) o.stack (few_stack o.stack rest b' o.fit)
        (subst (λ q. Fit t.nodes q.open_ones o.stack) is o.fit) o.tokens
        (subst (λ l. Steps t.nodes (length t.nodes) o.stack l (spot 0 [] ∷ []) (down_from (length t.nodes)) o.tokens) (ap (λ q. down_from (length q.nodes)) is ∙ down_push s.nodes x) o.steps)
    by_step (end {v = v} {children = ks} {frames = fs} {x = x} was here collection kind done is) b' o =
        let y : Vertex = record { look = x.look; links = ks } in
        let new : numbered u.nodes (suc v) ≡ Some y = ap (λ q. numbered q.nodes (suc v)) is ∙ ap (λ g. numbered g (suc v)) (closed_is s.nodes v x ks here) ∙ nth_set s.nodes v x y here in
        let f = falling_as _ was b.falling in
        let last = stays rest (suc v) y new (subst (λ q. Shut (suc v) q.open_ones) (sym is) (falling_shut (suc v) (suc v) fs (omega arith) f.1)) in
        back_end t.nodes s v ks fs y was last refl o.stack o.some (few_stack o.stack rest b' o.fit) (subst (λ q. Fit t.nodes q.open_ones o.stack) is o.fit) o.tokens
        (subst (λ l. Steps t.nodes (length t.nodes) o.stack l (spot 0 [] ∷ []) (down_from (length t.nodes)) o.tokens)
        (ap (λ q. down_from (length q.nodes)) is ∙ ap down_from (closed_length s.nodes v x ks here)) o.steps)

base_first : Base beginning
base_first = record { falling = (omega arith, tt); known = λ a v h. cc }

walked : (g : List Vertex) (stack : List Spot) → Fit g (frame 0 [] ∷ []) stack → (ts : List Token) → Steps g (length g) stack [] (spot 0 [] ∷ []) (down_from (length g)) ts → Walked g
walked g [] fit ts steps = absurd fit
walked g (spot u rest ∷ (p ∷ ps)) fit ts steps = absurd fit.2
walked g (spot u rest ∷ []) fit ts steps = record {
  tokens = ts;
  walk = record { steps = subst (λ q. Steps g (length g) q [] (spot 0 [] ∷ []) (down_from (length g)) ts) (ap₂ (λ a b. spot a b ∷ []) (sym fit.0) (sym fit.1)) steps };
}

pub composed_walk : ComposedWalk
composed_walk es g c =
    let o = onward c.taken_in base_first c.complete in
    subst Walked c.result (walked c.end_state.nodes o.stack o.fit o.tokens o.steps)

pub composed_order : ComposedOrder
composed_order es g deep ts seen c w = (walk_same w (composed_walk es g c).walk).1

nth_among : (xs : List ℕ) (i w : ℕ) → nth xs i ≡ Some w → among w xs ≡ true
nth_among [] i w h = cc
nth_among (x ∷ xs) zero w h = let e : w ≡ x = cc in or_left (eqb w x) (among w xs) (eq-eqb w x e)
nth_among (x ∷ xs) (suc i) w h = or_right (eqb w x) (among w xs) (nth_among xs i w h)

numbered_among : (xs : List ℕ) (place w : ℕ) → numbered xs place ≡ Some w → among w xs ≡ true
numbered_among xs zero w h = cc
numbered_among xs (suc i) w h = nth_among xs i w h

pub sound_graph : (g : List Vertex) → Sound g → SoundGraph g
sound_graph g s = record {
  some_node = s.some;
  links_inside = λ v x h place w e. (s.each v x h).links_lead w (numbered_among x.links place w e);
  leaves = λ v x h c. (s.each v x h).scalar_ends c;
}

pub composed_led : ComposedLed
composed_led es g v ok c a b = met_led (sound_graph g (composed_sound es g ok c)) (composed_walk es g c).walk v (among_down (length g) v a b)
