-- Documents whose nodes stand for one another are alike by paths; so what comes back from a walk is alike.
use Rattle.std.proofs.Common.{◌≡◌, ℕ, zero, suc, List, [], ◌∷◌, length, is_some, Some, None, Option, sym, refl, ap, ◌∙◌, subst, inl, inr, arith}
use Rattle.model.specs.Graph.{Vertex, Book, nth, numbered, root, follow, leads_from, leads, look_at, Alike}
use Rattle.serial.specs.Walk.{Token, spot, Walk}
use Rattle.serial.specs.Serialize.{walk_events}
use Rattle.serial.specs.Compose.{Frame, frame, Composed, Composes}
use Rattle.serial.specs.RoundTrip.{Sound, Tells, with_nodes, RoundTrip}
use Rattle.serial.proofs.Standing.{Stands, Distinct, Matches, nil, cons, bounds, one_old, one_new}
use Rattle.serial.proofs.Composing.{Opened, Fits, after, above, Tied, reached, tied_first}

-- the nodes h are the nodes met of g, in the order of their meeting
pub record Renumbered (g h : List Vertex) (seen : List ℕ) : Type 0 where
  pub size : length h ≡ length seen
  pub distinct : Distinct seen
  pub first : Stands seen 1 1
  pub each : (k v : ℕ) → Stands seen k v → (x y : Vertex) × (numbered g v ≡ Some x) × (numbered h k ≡ Some y) × (y.look ≡ x.look) × Matches seen y.links x.links

-- what a document with such nodes has, read off
root_some : (g : List Vertex) (x : Vertex) → numbered g 1 ≡ Some x → root g ≡ Some 1
root_some [] x h = let z : ◌≡◌ {A = ℕ} 0 1 = cc in absurd (omega (arith, z))
root_some (y ∷ g) x h = refl

look_some : (b : Book) (path : List ℕ) (v : ℕ) (x : Vertex) → leads b path ≡ Some v → numbered b.nodes v ≡ Some x → look_at b path ≡ Some x.look
look_some b path v x e f = rw (e, f) refl

look_none : (b : Book) (path : List ℕ) → leads b path ≡ None → look_at b path ≡ None
look_none b path e = rw e refl

-- both lead nowhere, or to nodes that stand for one another
data Both (seen : List ℕ) : Option ℕ → Option ℕ → Type 0 where
  neither : Both seen None None
  both : {k v : ℕ} → Stands seen k v → Both seen (Some k) (Some v)

both_nth : {seen ks vs : List ℕ} (i : ℕ) → Matches seen ks vs → Both seen (nth ks i) (nth vs i)
both_nth i nil = neither
both_nth zero (cons s m) = both s
both_nth (suc i) (cons s m) = both_nth i m

both_numbered : {seen ks vs : List ℕ} (i : ℕ) → Matches seen ks vs → Both seen (numbered ks i) (numbered vs i)
both_numbered zero m = neither
both_numbered (suc i) m = both_nth i m

module _ {g h : List Vertex} {seen : List ℕ} (r : Renumbered g h seen) where
  both_follow : {o p : Option ℕ} (place : ℕ) → Both seen o p → Both seen (follow h o place) (follow g p place)
  both_follow place neither = neither
  both_follow place (both {k = k} {v = v} s) = let e = r.each k v s in rw (e.2, e.3) (both_numbered place e.5)

  both_lead : (path : List ℕ) {o p : Option ℕ} → Both seen o p → Both seen (leads_from h o path) (leads_from g p path)
  both_lead [] b = b
  both_lead (place ∷ path) b = both_lead path (both_follow place b)

both_same : {seen : List ℕ} {o o' p p' : Option ℕ} → Both seen o p → Both seen o' p' → o ≡ o' → p ≡ p'
both_same neither neither e = refl
both_same neither (both s) e = let z : ◌≡◌ {A = ℕ} 0 1 = cc in absurd (omega (arith, z))
both_same (both s) neither e = let z : ◌≡◌ {A = ℕ} 0 1 = cc in absurd (omega (arith, z))
both_same {seen = seen} (both {k = k} s) (both {k = l} {v = w} s') e = let f : l ≡ k = cc in ap Some (one_old s (subst (λ n. Stands seen n w) f s'))

same_both : {seen : List ℕ} {o o' p p' : Option ℕ} → Distinct seen → Both seen o p → Both seen o' p' → p ≡ p' → o ≡ o'
same_both d neither neither e = refl
same_both d neither (both s) e = let z : ◌≡◌ {A = ℕ} 0 1 = cc in absurd (omega (arith, z))
same_both d (both s) neither e = let z : ◌≡◌ {A = ℕ} 0 1 = cc in absurd (omega (arith, z))
same_both {seen = seen} d (both {v = v} s) (both {k = l} {v = w} s') e = let f : w ≡ v = cc in ap Some (one_new d s (subst (λ n. Stands seen l n) f s'))

both_some : {seen : List ℕ} {o p : Option ℕ} → Both seen o p → is_some p ≡ is_some o
both_some neither = refl
both_some (both s) = refl

pub renumbered_alike : (b : Book) {h : List Vertex} {seen : List ℕ} → Renumbered b.nodes h seen → Alike b (with_nodes b h)
renumbered_alike b {h = h} {seen = seen} r = record {
  start = refl;
  end = refl;
  paths = λ p. both_some (all p);
  looks = λ p. looks p (leads (with_nodes b h) p) (leads b p) refl refl (all p);
  sharing = λ p q. (same_both r.distinct (all p) (all q), both_same (all p) (all q));
}
  where
    all : (p : List ℕ) → Both seen (leads (with_nodes b h) p) (leads b p)
    all p = rw (root_some h (r.each 1 1 r.first).1 (r.each 1 1 r.first).3, root_some b.nodes (r.each 1 1 r.first).0 (r.each 1 1 r.first).2) (both_lead r p (both r.first))

    looks : (p : List ℕ) (o o' : Option ℕ) → leads (with_nodes b h) p ≡ o → leads b p ≡ o' → Both seen o o' → look_at b p ≡ look_at (with_nodes b h) p
    looks p None (Some v) e e' b = elim b [ ]
    looks p (Some k) None e e' b = elim b [ ]
    looks p None None e e' neither = look_none b p e' ∙ sym (look_none (with_nodes b h) p e)
    looks p (Some k) (Some v) e e' (both s) =
        let x = r.each k v s in look_some b p v x.0 e' x.2 ∙ ap Some (sym x.4) ∙ sym (look_some (with_nodes b h) p k x.1 e x.3)

-- where only the document is open, all that was met is composed
ended : {g : List Vertex} {seen : List ℕ} {frames : List Frame} → Fits g seen (spot 0 [] ∷ []) frames → (frames ≡ frame 0 (1 ∷ []) ∷ []) × Stands seen 1 1
ended (after s) = (refl, s)
ended (above s e c m l f) = elim f [ ]

pub tied_renumbered : {g : List Vertex} {anchors : ℕ → List ℕ} {seen : List ℕ} {s : Composed} → Tied g anchors (spot 0 [] ∷ []) seen s → Renumbered g s.nodes seen
tied_renumbered {g = g} {seen = seen} {s = s} t = record { size = t.size; distinct = t.distinct; first = (ended t.fits).1; each = each }
  where
    each : (k v : ℕ) → Stands seen k v → (x y : Vertex) × (numbered g v ≡ Some x) × (numbered s.nodes k ≡ Some y) × (y.look ≡ x.look) × Matches seen y.links x.links
    each k v st =
        let p = t.placed k v st in
        let b = bounds st in
        let links : Matches seen p.new.links p.old.links = elim p.links [
          | inl m ↦ m
          | inr o ↦ elim (subst (λ fs. Opened k fs) (ended t.fits).0 o) [ inl e ↦ absurd (omega (arith, b)) | inr n ↦ absurd n ]
        ] in
        (p.old, p.new, p.is_old, p.is_new, p.look, links)

-- what is composed of a walk's events, with what it stands for
pub record Return (anchors : ℕ → List ℕ) (g : List Vertex) (ts : List Token) (seen : List ℕ) : Type 0 where
  pub back : List Vertex
  pub composes : Composes (walk_events anchors g ts) back
  pub renumbered : Renumbered g back seen

pub return : {g : List Vertex} {anchors : ℕ → List ℕ} {deep : ℕ} {ts : List Token} {seen : List ℕ} → Sound g → Walk g deep ts seen → Tells anchors ts → Return anchors g ts seen
return {g = g} {anchors = anchors} sound walk tells =
    let r = reached sound tells.apart walk.steps tells.given (tied_first g anchors) in
    record {
      back = r.at.nodes;
      renumbered = tied_renumbered r.tied;
      composes = record { end_state = r.at; taken_in = r.taken; complete = (ended r.tied.fits).0; result = refl };
    }

pub round_trip : RoundTrip
round_trip b deep ts seen anchors sound walk tells =
    let r = return sound walk tells in
    record { back = r.back; composes = r.composes; alike = renumbered_alike b r.renumbered }
