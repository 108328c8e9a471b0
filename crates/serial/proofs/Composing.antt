-- Composing the events of a walk: step by step, what is composed stands for what is met.
use Rattle.std.proofs.Common.{◌≡◌, ℕ, zero, suc, ◌%◌, true, false, ◌≢◌, ◌⊎◌, List, [], ◌∷◌, ◌++◌, length, set, Some, codes, Option, sym, refl, ap, ◌∙◌, subst, ap₂, inl, inr, arith}
use mathlib.Core.List.{Memᴰ}
use Rattle.std.proofs.lemmas.List.{append-nil, append_assoc, length-append, length-set}
use Rattle.std.proofs.lemmas.Bool.{cases_eq, cond-false}
use Rattle.model.specs.declared.NodeKind.{NodeKind}
use Rattle.model.specs.declared.NodeKind.TheVariants.{Scalar, Sequence, Mapping}
use Rattle.model.specs.Events.{Ev}
use Rattle.model.specs.Graph.{Look, Vertex, numbered}
use Rattle.serial.specs.Walk.{Token, first, again, leave, Spot, spot, among, is_collection, Step, met, leaf, into, out, Steps}
use Rattle.serial.specs.Serialize.{same_bytes, start_kind, end_kind, plain, node_event, alias_event, token_events, walk_events, default_tag}
use Rattle.serial.specs.Compose.{Frame, frame, Composed, Takes, Complete, TakesIn, alias, scalar, start, end, TakesAll, beginning, closed, resolved, look_of, bare_vertex, noted, named, fresh, after_alias, after_scalar, after_start, after_end}
use Rattle.serial.specs.RoundTrip.{Sound}
use Rattle.serial.proofs.Standing.{Stands, here, there, Distinct, Matches, nil, bounds, stands_some, one_old, matches_grow, matches_push, matches_length, bytes_differ, names_of, named_old, fresh_new, nth_left, nth_push, nth_set, nth_set_other}

-- node k is among the open ones
abbrev pub Opened : ℕ → List Frame → Type 0
Opened k [] = ⊥
Opened k (frame j ks ∷ frames) = (k ≡ j) ⊎ Opened k frames

-- node k stands for v: the same look, and its links stand for the links of v, unless it is open
pub record Placed (g : List Vertex) (seen : List ℕ) (nodes : List Vertex) (frames : List Frame) (k v : ℕ) : Type 0 where
  pub old : Vertex
  pub new : Vertex
  pub is_old : numbered g v ≡ Some old
  pub is_new : numbered nodes k ≡ Some new
  pub look : new.look ≡ old.look
  pub links : Matches seen new.links old.links ⊎ Opened k frames

-- the open collections of the composing are those of the walk, each with the children that came
pub data Fits (g : List Vertex) (seen : List ℕ) : List Spot → List Frame → Type 0 where
  before : seen ≡ [] → Fits g seen (spot 0 (1 ∷ []) ∷ []) (frame 0 [] ∷ [])
  after : Stands seen 1 1 → Fits g seen (spot 0 [] ∷ []) (frame 0 (1 ∷ []) ∷ [])
  above : {k v : ℕ} {ks vs rest : List ℕ} {x : Vertex} {stack : List Spot} {frames : List Frame}
      → Stands seen (suc k) v → numbered g v ≡ Some x → is_collection x.look.kind ≡ true → Matches seen ks vs → vs ++ rest ≡ x.links
      → Fits g seen stack frames → Fits g seen (spot v rest ∷ stack) (frame (suc k) ks ∷ frames)

pub record Tied (g : List Vertex) (anchors : ℕ → List ℕ) (stack : List Spot) (seen : List ℕ) (s : Composed) : Type 0 where
  pub size : length s.nodes ≡ length seen
  pub distinct : Distinct seen
  pub names : s.names ≡ names_of anchors seen
  pub placed : (k v : ℕ) → Stands seen k v → Placed g seen s.nodes s.open_ones k v
  pub fits : Fits g seen stack s.open_ones

abbrev Grows : List ℕ → List ℕ → Type 0
Grows seen seen' = (k v : ℕ) → Stands seen k v → Stands seen' k v

fits_grow : {g : List Vertex} {seen seen' : List ℕ} {stack : List Spot} {frames : List Frame} → Grows seen seen' → (seen ≡ [] → ⊥) → Fits g seen stack frames → Fits g seen' stack frames
fits_grow grow n (before e) = absurd (n e)
fits_grow grow n (after s) = after (grow 1 1 s)
fits_grow grow n (above s e c m l f) = above (grow _ _ s) e c (matches_grow grow m) l (fits_grow grow n f)

not_empty : {seen : List ℕ} {k v : ℕ} → Stands seen k v → seen ≡ [] → ⊥
not_empty s e = omega (arith, bounds s, ap length e)

-- the innermost open collection takes one child more
record Received (g : List Vertex) (seen : List ℕ) (stack : List Spot) (frames : List Frame) (n : ℕ) : Type 0 where
  to : ℕ
  children : List ℕ
  others : List Frame
  was : frames ≡ frame to children ∷ others
  takes : Takes to children
  fits : Fits g seen stack (frame to (children ++ n ∷ []) ∷ others)

received : {g : List Vertex} {seen seen' : List ℕ} {u v n : ℕ} {rest : List ℕ} {stack : List Spot} {frames : List Frame}
    → Grows seen seen' → Stands seen' n v → (seen ≡ [] → n ≡ 1)
    → Fits g seen (spot u (v ∷ rest) ∷ stack) frames → Received g seen' (spot u rest ∷ stack) frames n
received {g = g} {seen' = seen'} {n = n} grow s one (before e) =
    record {
      to = 0;
      children = [];
      others = [];
      was = refl;
      takes = refl;
      fits = subst (λ i. Fits g seen' (spot 0 [] ∷ []) (frame 0 (i ∷ []) ∷ [])) (sym (one e)) (after (subst (λ i. Stands seen' i 1) (one e) s));
    }
received {g = g} {v = v} {n = n} {rest = rest} grow s one (above {ks = ks} {vs = vs} t e c m l f) =
    record {
      to = _;
      children = ks;
      others = _;
      was = refl;
      takes = tt;
      fits = above (grow _ _ t) e c (matches_push (matches_grow grow m) s) (append_assoc vs (v ∷ []) rest ∙ l) (fits_grow grow (not_empty t) f);
    }

numbered_left : {A : Type 0} (xs ys : List A) (k : ℕ) (x : A) → numbered xs k ≡ Some x → numbered (xs ++ ys) k ≡ Some x
numbered_left xs ys zero x h = let z : ◌≡◌ {A = ℕ} 0 1 = cc in absurd (omega (arith, z))
numbered_left xs ys (suc i) x h = nth_left xs ys i x h

pub numbered_set_other : {A : Type 0} (xs : List A) (k j : ℕ) (y : A) → (j ≡ suc k → ⊥) → numbered (set xs k y) j ≡ numbered xs j
numbered_set_other xs k zero y n = refl
numbered_set_other xs k (suc i) y n = nth_set_other xs k i y (λ e. n (ap suc (sym e)))

pub one_vertex : (o : Option Vertex) (x y : Vertex) → o ≡ Some x → o ≡ Some y → x ≡ y
one_vertex o x y p q = cc

-- what composing makes of a node's event
resolved_same : (k : NodeKind) (tag : List ℕ) → tag ≢ [] → tag ≢ codes "!" → resolved k tag ≡ tag
resolved_same k [] n m = absurd (n refl)
resolved_same k (b ∷ bs) n m = cond-false (same_bytes (b ∷ bs) (codes "!")) (default_tag k) (b ∷ bs) (bytes_differ (b ∷ bs) (codes "!") m)

look_back : (k : NodeKind) (l : Look) (a : List ℕ) → l.kind ≡ k → l.tag ≢ [] → l.tag ≢ codes "!" → look_of k (node_event a l) ≡ l
look_back k l a e n m = λ i. record { kind = sym e i; style = l.style; tag = resolved_same k l.tag n m i; value = l.value }

is_scalar : (k : NodeKind) → is_collection k ≡ false → k ≡ Scalar
is_scalar Scalar h = refl
is_scalar Sequence h = let z : ◌≡◌ {A = ℕ} 0 1 = cc in absurd (omega (arith, z))
is_scalar Mapping h = let z : ◌≡◌ {A = ℕ} 0 1 = cc in absurd (omega (arith, z))

complete_of : (k : NodeKind) (ks : List ℕ) → is_collection k ≡ true → (k ≡ Mapping → length ks % 2 ≡ 0) → Complete k ks
complete_of Scalar ks h even = let z : ◌≡◌ {A = ℕ} 0 1 = cc in absurd (omega (arith, z))
complete_of Sequence ks h even = tt
complete_of Mapping ks h even = even refl

pub closed_is : (nodes : List Vertex) (k : ℕ) (x : Vertex) (links : List ℕ) → numbered nodes (suc k) ≡ Some x → closed nodes (suc k) links ≡ set nodes k (record { look = x.look; links = links })
closed_is nodes k x links h = rw h refl

-- one step of the walk and of the composing
pub record Next (g : List Vertex) (anchors : ℕ → List ℕ) (stack : List Spot) (seen : List ℕ) (s : Composed) (t : Token) : Type 0 where
  pub event : Ev
  pub gives : token_events anchors g t ≡ event ∷ []
  pub to : Composed
  pub taken : TakesIn s event to
  pub tied : Tied g anchors stack seen to

placed_grow : {g nodes nodes' : List Vertex} {seen seen' : List ℕ} {frames frames' : List Frame} {k v : ℕ} → Grows seen seen'
    → ((x : Vertex) → numbered nodes k ≡ Some x → numbered nodes' k ≡ Some x) → (Opened k frames → Opened k frames')
    → Placed g seen nodes frames k v → Placed g seen' nodes' frames' k v
placed_grow {seen = seen} {seen' = seen'} {frames = frames} {frames' = frames'} {k = k} grow keep still p = record {
  old = p.old;
  new = p.new;
  is_old = p.is_old;
  is_new = keep p.new p.is_new;
  look = p.look;
  links = go p.links;
}
  where
    go : Matches seen p.new.links p.old.links ⊎ Opened k frames → Matches seen' p.new.links p.old.links ⊎ Opened k frames'
    go (inl m) = inl (matches_grow grow m)
    go (inr o) = inr (still o)

-- a new node behind the others
placed_push : {g nodes : List Vertex} {seen : List ℕ} {frames frames' : List Frame} (v : ℕ) (x y : Vertex)
    → length nodes ≡ length seen → numbered g v ≡ Some x → y.look ≡ x.look
    → ((k : ℕ) → Opened k frames → Opened k frames')
    → Matches (v ∷ seen) y.links x.links ⊎ Opened (suc (length nodes)) frames'
    → ((k w : ℕ) → Stands seen k w → Placed g seen nodes frames k w)
    → (k w : ℕ) → Stands (v ∷ seen) k w → Placed g (v ∷ seen) (nodes ++ y ∷ []) frames' k w
placed_push {g = g} {nodes = nodes} {seen = seen} {frames' = frames'} v x y size is_x look still links all k w (here e f) =
    let n : k ≡ suc (length nodes) = e ∙ ap suc (sym size) in
    subst (λ j. Placed g (v ∷ seen) (nodes ++ y ∷ []) frames' j w) (sym n) (record {
      old = x;
      new = y;
      is_old = ap (numbered g) f ∙ is_x;
      is_new = nth_push nodes y;
      look = look;
      links = links;
    })
placed_push {nodes = nodes} v x y size is_x look still links all k w (there s) =
    placed_grow (λ _ _. there) (λ z h. numbered_left nodes (y ∷ []) k z h) (still k) (all k w s)

opened_as : (k : ℕ) {frames others : List Frame} {to : ℕ} {children : List ℕ} → frames ≡ frame to children ∷ others → Opened k frames → (k ≡ to) ⊎ Opened k others
opened_as k e o = subst (λ fs. Opened k fs) e o

module _ {g : List Vertex} {anchors : ℕ → List ℕ} (sound : Sound g) (apart : (v w : ℕ) → anchors v ≡ anchors w → anchors v ≢ [] → v ≡ w) where
  again_step : {u v : ℕ} {rest seen : List ℕ} {stack : List Spot} {s : Composed} → among v seen ≡ true → anchors v ≢ []
      → Tied g anchors (spot u (v ∷ rest) ∷ stack) seen s → Next g anchors (spot u rest ∷ stack) seen s (again v)
  again_step {v = v} {seen = seen} {s = s} h n t =
      let st = stands_some v seen h in
      let r = received (λ _ _ i. i) st.1 (λ e. absurd (not_empty st.1 e)) t.fits in
      record {
        event = alias_event (anchors v);
        gives = refl;
        to = after_alias s r.to r.children r.others st.0;
        taken = alias refl r.was r.takes (ap (named (anchors v)) t.names ∙ named_old apart t.distinct st.1 n) refl;
        tied = record {
          size = t.size;
          distinct = t.distinct;
          names = t.names;
          fits = r.fits;
          placed = λ k w i. placed_grow (λ _ _ j. j) (λ _ e. e) (opened_as k r.was) (t.placed k w i);
        };
      }

  leaf_step : {u v : ℕ} {rest seen : List ℕ} {stack : List Spot} {x : Vertex} {s : Composed}
      → among v seen ≡ false → numbered g v ≡ Some x → is_collection x.look.kind ≡ false
      → Tied g anchors (spot u (v ∷ rest) ∷ stack) seen s → Next g anchors (spot u rest ∷ stack) (v ∷ seen) s (first v)
  leaf_step {v = v} {seen = seen} {x = x} {s = s} h is_x c t =
      let fine = sound.each v x is_x in
      let n : ℕ = suc (length s.nodes) in
      let st : Stands (v ∷ seen) n v = here (ap suc t.size) refl in
      let r = received (λ _ _ i. there i) st (λ e. ap suc (t.size ∙ ap length e)) t.fits in
      let e : Ev = node_event (anchors v) x.look in
      let kind = is_scalar x.look.kind c in
      record {
        event = e;
        gives = rw is_x refl;
        to = after_scalar s r.to r.children r.others e;
        taken = scalar (ap start_kind kind) r.was r.takes (subst (fresh (anchors v)) (sym t.names) (fresh_new apart v seen h)) refl;
        tied = record {
          size = length-append s.nodes _ ∙ omega (arith, t.size);
          distinct = (h, t.distinct);
          names = ap₂ (noted (anchors v)) (ap suc t.size) t.names;
          fits = r.fits;
          placed = placed_push v x (bare_vertex (look_of Scalar e)) t.size is_x (look_back Scalar x.look (anchors v) kind fine.tagged fine.tag_told) (λ k. opened_as k r.was)
              (inl (subst (Matches (v ∷ seen) []) (sym (fine.scalar_ends c)) nil)) t.placed;
        };
      }

  into_step : {u v : ℕ} {rest seen : List ℕ} {stack : List Spot} {x : Vertex} {s : Composed}
      → among v seen ≡ false → numbered g v ≡ Some x → is_collection x.look.kind ≡ true
      → Tied g anchors (spot u (v ∷ rest) ∷ stack) seen s → Next g anchors (spot v x.links ∷ (spot u rest ∷ stack)) (v ∷ seen) s (first v)
  into_step {v = v} {seen = seen} {x = x} {s = s} h is_x c t =
      let fine = sound.each v x is_x in
      let n : ℕ = suc (length s.nodes) in
      let st : Stands (v ∷ seen) n v = here (ap suc t.size) refl in
      let r = received (λ _ _ i. there i) st (λ e. ap suc (t.size ∙ ap length e)) t.fits in
      let e : Ev = node_event (anchors v) x.look in
      let k : NodeKind = x.look.kind in
      record {
        event = e;
        gives = rw is_x refl;
        to = after_start s r.to r.children r.others k e;
        taken = start k c refl r.was r.takes (subst (fresh (anchors v)) (sym t.names) (fresh_new apart v seen h)) refl;
        tied = record {
          size = length-append s.nodes _ ∙ omega (arith, t.size);
          distinct = (h, t.distinct);
          names = ap₂ (noted (anchors v)) (ap suc t.size) t.names;
          fits = above st is_x c nil refl r.fits;
          placed = placed_push v x (bare_vertex (look_of k e)) t.size is_x (look_back k x.look (anchors v) refl fine.tagged fine.tag_told) (λ k o. inr (opened_as k r.was o))
              (inr (inl refl)) t.placed;
        };
      }

  out_step : {u v : ℕ} {rest seen : List ℕ} {stack : List Spot} {s : Composed} {frames : List Frame}
      → s.open_ones ≡ frames → Fits g seen (spot v [] ∷ (spot u rest ∷ stack)) frames
      → Tied g anchors (spot v [] ∷ (spot u rest ∷ stack)) seen s → Next g anchors (spot u rest ∷ stack) seen s (leave v)
  out_step {v = v} {seen = seen} {s = s} o (above {k = k} {ks = ks} {vs = vs} {x = x} {frames = frames} st is_x c m l f) t =
      let p = t.placed (suc k) v st in
      let same : p.new.look ≡ x.look = p.look ∙ ap (λ y. y.look) (one_vertex (numbered g v) p.old x p.is_old is_x) in
      let kind : p.new.look.kind ≡ x.look.kind = ap (λ y. y.kind) same in
      let all : vs ≡ x.links = sym (append-nil vs) ∙ l in
      let even : p.new.look.kind ≡ Mapping → length ks % 2 ≡ 0 = λ e. ap (λ n. n % 2) (matches_length m ∙ ap length all) ∙ (sound.each v x is_x).pairs (sym kind ∙ e) in
      let y : Vertex = record { look = p.new.look; links = ks } in
      let nodes : closed s.nodes (suc k) ks ≡ set s.nodes k y = closed_is s.nodes k p.new ks p.is_new in
      record {
        event = plain (end_kind x.look.kind) 0;
        gives = rw is_x refl;
        to = after_end s (suc k) ks frames;
        taken = end o p.is_new (ap is_collection kind ∙ c) (ap end_kind (sym kind)) (complete_of p.new.look.kind ks (ap is_collection kind ∙ c) even) refl;
        tied = record {
          size = ap length nodes ∙ length-set s.nodes k y ∙ t.size;
          distinct = t.distinct;
          names = t.names;
          fits = f;
          placed = λ j w i. elim (cases_eq j (suc k)) [
            | inl e ↦ record {
              old = x;
              new = y;
              is_old = ap (numbered g) (one_old i (subst (λ n. Stands seen n v) (sym e) st)) ∙ is_x;
              is_new = ap (λ n. numbered n j) nodes ∙ ap (numbered (set s.nodes k y)) e ∙ nth_set s.nodes k p.new y p.is_new;
              look = same;
              links = inl (subst (Matches seen ks) all m);
            }
            | inr n ↦ placed_grow (λ _ _ q. q) (λ z h. ap (λ q. numbered q j) nodes ∙ numbered_set_other s.nodes k j y n ∙ h)
                (λ q. elim (subst (λ fs. Opened j fs) o q) [ inl e ↦ absurd (n e) | inr more ↦ more ]) (t.placed j w i)
          ];
        };
      }

  pub next : {stack stack' : List Spot} {seen seen' : List ℕ} {token : Token} {s : Composed}
      → Step g stack seen token stack' seen' → ((v : ℕ) → token ≡ again v → anchors v ≢ []) → Tied g anchors stack seen s → Next g anchors stack' seen' s token
  next (met h) given t = again_step h (given _ refl) t
  next (leaf h is_x c) given t = leaf_step h is_x c t
  next (into h is_x c) given t = into_step h is_x c t
  next out given t = out_step refl t.fits t

  -- all steps
  pub record Reached (stack : List Spot) (seen : List ℕ) (s : Composed) (ts : List Token) : Type 0 where
    pub at : Composed
    pub taken : TakesAll s (walk_events anchors g ts) at
    pub tied : Tied g anchors stack seen at

  pub reached : {deep : ℕ} {stack stack' : List Spot} {seen seen' : List ℕ} {ts : List Token} {s : Composed}
      → Steps g deep stack seen stack' seen' ts → ((v : ℕ) → Memᴰ (again v) ts → anchors v ≢ []) → Tied g anchors stack seen s → Reached stack' seen' s ts
  reached Steps.none given t = record { at = _; taken = TakesAll.none; tied = t }
  reached {s = s} (Steps.more {t = token} {ts = ts} step deep steps) given t =
      let n = next step (λ v e. given v (Memᴰ.head (sym e))) t in
      let r = reached steps (λ v m. given v (Memᴰ.tail m)) n.tied in
      record {
        at = r.at;
        tied = r.tied;
        taken = subst (λ es. TakesAll s (es ++ walk_events anchors g ts) r.at) (sym n.gives) (TakesAll.more n.taken r.taken);
      }

pub tied_first : (g : List Vertex) (anchors : ℕ → List ℕ) → Tied g anchors (spot 0 (1 ∷ []) ∷ []) [] beginning
tied_first g anchors = record { size = refl; distinct = tt; names = refl; placed = λ k v s. absurd (not_empty s refl); fits = before refl }
