-- Counting one reference after the other gives the numbers.
use Rattle.std.proofs.Common.{◌≡◌, ℕ, suc, ◌+◌, ◌≤◌, true, false, cond, ◌||◌, eqb, List, [], ◌∷◌, ◌++◌, length, sym, refl, ap, ◌∙◌, subst, inl, inr, ⊎_elim, arith}
use Rattle.std.proofs.lemmas.List.{append_assoc, length-append}
use Rattle.std.proofs.lemmas.Bool.{cases_eq, cases_Bool, eq-eqb, ne_eqb, cond-true, cond-false, or_parts, or_from}
use Rattle.model.specs.Graph.{Vertex}
use Rattle.serial.specs.Walk.{among}
use Rattle.serial.specs.Numbering.{times, references, seconds_after, seconds, place_from}
use Rattle.serial.proofs.Among.{among_append}
use Rattle.walk.specs.declared.entry.Counted.{Counted}
use Rattle.walk.specs.Entries.{entry_at}
use Rattle.walk.specs.Counting.{bumped, Countable, Referred, Ready}
use Rattle.walk.proofs.Places.{entry_same, entry_other}

times_same : (v : ℕ) (ws : List ℕ) → times v (v ∷ ws) ≡ suc (times v ws)
times_same v ws = cond-true (eqb v v) (suc (times v ws)) (times v ws) (eq-eqb v v refl)

times_other : (w v : ℕ) (ws : List ℕ) → (w ≡ v → ⊥) → times w (v ∷ ws) ≡ times w ws
times_other w v ws apart = cond-false (eqb w v) (suc (times w ws)) (times w ws) (ne_eqb w v apart)

pub times_few : (v : ℕ) (ws : List ℕ) → times v ws ≤ length ws
times_few v [] = omega arith
times_few v (w ∷ ws) = elim (cases_Bool (eqb v w)) [
  | inl e ↦ omega (arith, cond-true (eqb v w) (suc (times v ws)) (times v ws) e, times_few v ws)
  | inr e ↦ omega (arith, cond-false (eqb v w) (suc (times v ws)) (times v ws) e, times_few v ws)
]

-- the place of what is added at the end
place_new : (k v : ℕ) (ws : List ℕ) → among v ws ≡ false → place_from k v (ws ++ v ∷ []) ≡ k + length ws
place_new k v [] fresh = cond-true (eqb v v) k 0 (eq-eqb v v refl) ∙ omega arith
place_new k v (w ∷ ws) fresh =
    let p = or_parts (eqb v w) (among v ws) fresh in
    let later = place_new (suc k) v ws p.1 in
    cond-false (eqb v w) k (place_from (suc k) v (ws ++ v ∷ [])) p.0 ∙ omega arith

place_other : (k w v : ℕ) (ws : List ℕ) → (w ≡ v → ⊥) → place_from k w (ws ++ v ∷ []) ≡ place_from k w ws
place_other k w v [] apart = cond-false (eqb w v) k 0 (ne_eqb w v apart)
place_other k w v (u ∷ ws) apart = ap (λ n. cond (eqb w u) k n) (place_other (suc k) w v ws apart)

-- After i references: `before` are those counted, newest first, `secs` the nodes numbered, in order; `rest` are the references to come.
pub record SoFar (g : List Vertex) (rest : List ℕ) (i : ℕ) (t : List Counted) (last : ℕ) : Type 0 where
  pub before : List ℕ
  pub secs : List ℕ
  pub refs : (v : ℕ) → (entry_at t v).references ≡ times v before
  pub anchors : (v : ℕ) → (entry_at t v).anchor ≡ place_from 1 v secs
  pub unmet : (v : ℕ) → (entry_at t v).serialized ≡ 0
  pub late : (v : ℕ) → times v before ≤ 1 → among v secs ≡ false
  pub last_is : last ≡ length secs
  pub few : length before ≡ i
  pub secs_few : length secs ≤ i
  pub onward : secs ++ seconds_after before rest ≡ seconds g

-- what an entry is after a reference
entry_after : (t t' : List Counted) (last last' v : ℕ) → Countable t last v → Referred t last v t' last' → entry_at t' v ≡ bumped (entry_at t v) last
entry_after t t' last last' v can r = ap (λ (s : List Counted). entry_at s v) r.table ∙ entry_same t v (bumped (entry_at t v) last) can.low can.high

entry_aside : (t t' : List Counted) (last last' v w : ℕ) → Referred t last v t' last' → (w ≡ v → ⊥) → entry_at t' w ≡ entry_at t w
entry_aside t t' last last' v w r apart = ap (λ (s : List Counted). entry_at s w) r.table ∙ entry_other t v w (bumped (entry_at t v) last) apart

abbrev with_number : Counted → ℕ → Counted
with_number c last = record { references = c.references + 1; anchor = last + 1; serialized = c.serialized }

abbrev without : Counted → Counted
without c = record { references = c.references + 1; anchor = c.anchor; serialized = c.serialized }

-- a property of every number, by whether it is v
by_number : (P : ℕ → Type 0) (v : ℕ) → P v → ((w : ℕ) → (w ≡ v → ⊥) → P w) → (w : ℕ) → P w
by_number P v here other w = ⊎_elim (λ e. subst P (sym e) here) (λ apart. other w apart) (cases_eq w v)

second :
    (g : List Vertex) (v : ℕ) (rest : List ℕ) (i : ℕ) (t t' : List Counted) (last last' : ℕ) → (s : SoFar g (v ∷ rest) i t last) → Countable t last v
    → Referred t last v t' last' → times v s.before ≡ 1 → SoFar g rest (suc i) t' last'
second g v rest i t t' last last' s can r once =
    let c = entry_at t v in
    let refs = s.refs in
    let two : eqb (c.references + 1) 2 ≡ true = eq-eqb (c.references + 1) 2 (omega (arith, refs v, once)) in
    let here : entry_at t' v ≡ with_number c last = entry_after t t' last last' v can r ∙ cond-true (eqb (c.references + 1) 2) (with_number c last) (without c) two in
    let fresh = s.late v (omega (arith, once)) in
    let now : seconds_after s.before (v ∷ rest) ≡ v ∷ seconds_after (v ∷ s.before) rest = cond-true (eqb (times v s.before) 1) (v ∷ seconds_after (v ∷ s.before) rest) (seconds_after (v ∷ s.before) rest) (eq-eqb (times v s.before) 1 once) in
    record {
      before = v ∷ s.before;
      secs = s.secs ++ v ∷ [];
      refs = by_number (λ w. (entry_at t' w).references ≡ times w (v ∷ s.before)) v
          (ap (λ (x : Counted). x.references) here ∙ omega (arith, refs v, times_same v s.before))
          (λ w apart. ap (λ (x : Counted). x.references) (entry_aside t t' last last' v w r apart) ∙ refs w ∙ sym (times_other w v s.before apart));
      anchors = by_number (λ w. (entry_at t' w).anchor ≡ place_from 1 w (s.secs ++ v ∷ [])) v
          (ap (λ (x : Counted). x.anchor) here ∙ omega (arith, s.last_is, place_new 1 v s.secs fresh))
          (λ w apart. ap (λ (x : Counted). x.anchor) (entry_aside t t' last last' v w r apart) ∙ s.anchors w ∙ sym (place_other 1 w v s.secs apart));
      unmet = by_number (λ w. (entry_at t' w).serialized ≡ 0) v
          (ap (λ (x : Counted). x.serialized) here ∙ s.unmet v)
          (λ w apart. ap (λ (x : Counted). x.serialized) (entry_aside t t' last last' v w r apart) ∙ s.unmet w);
      late = by_number (λ w. times w (v ∷ s.before) ≤ 1 → among w (s.secs ++ v ∷ []) ≡ false) v
          (λ h. absurd (omega (arith, h, once, times_same v s.before)))
          (λ w apart h. among_append w s.secs (v ∷ []) ∙ or_from (among w s.secs) (eqb w v || false) (s.late w (omega (arith, h, times_other w v s.before apart))) (or_from (eqb w v) false (ne_eqb w v apart) refl));
      last_is = r.last_is ∙ cond-true (eqb (c.references + 1) 2) (last + 1) last two ∙ omega (arith, s.last_is, length-append s.secs (v ∷ []));
      few = ap suc s.few;
      secs_few = omega (arith, s.secs_few, length-append s.secs (v ∷ []));
      onward = append_assoc s.secs (v ∷ []) (seconds_after (v ∷ s.before) rest) ∙ ap (λ (xs : List ℕ). s.secs ++ xs) (sym now) ∙ s.onward;
    }

another :
    (g : List Vertex) (v : ℕ) (rest : List ℕ) (i : ℕ) (t t' : List Counted) (last last' : ℕ) → (s : SoFar g (v ∷ rest) i t last) → Countable t last v
    → Referred t last v t' last' → (times v s.before ≡ 1 → ⊥) → SoFar g rest (suc i) t' last'
another g v rest i t t' last last' s can r other =
    let c = entry_at t v in
    let refs = s.refs in
    let two : eqb (c.references + 1) 2 ≡ false = ne_eqb (c.references + 1) 2 (λ e. other (omega (arith, refs v, e))) in
    let here : entry_at t' v ≡ without c = entry_after t t' last last' v can r ∙ cond-false (eqb (c.references + 1) 2) (with_number c last) (without c) two in
    let now : seconds_after s.before (v ∷ rest) ≡ seconds_after (v ∷ s.before) rest = cond-false (eqb (times v s.before) 1) (v ∷ seconds_after (v ∷ s.before) rest) (seconds_after (v ∷ s.before) rest) (ne_eqb (times v s.before) 1 other) in
    record {
      before = v ∷ s.before;
      secs = s.secs;
      refs = by_number (λ w. (entry_at t' w).references ≡ times w (v ∷ s.before)) v
          (ap (λ (x : Counted). x.references) here ∙ omega (arith, refs v, times_same v s.before))
          (λ w apart. ap (λ (x : Counted). x.references) (entry_aside t t' last last' v w r apart) ∙ refs w ∙ sym (times_other w v s.before apart));
      anchors = by_number (λ w. (entry_at t' w).anchor ≡ place_from 1 w s.secs) v
          (ap (λ (x : Counted). x.anchor) here ∙ s.anchors v)
          (λ w apart. ap (λ (x : Counted). x.anchor) (entry_aside t t' last last' v w r apart) ∙ s.anchors w);
      unmet = by_number (λ w. (entry_at t' w).serialized ≡ 0) v
          (ap (λ (x : Counted). x.serialized) here ∙ s.unmet v)
          (λ w apart. ap (λ (x : Counted). x.serialized) (entry_aside t t' last last' v w r apart) ∙ s.unmet w);
      late = by_number (λ w. times w (v ∷ s.before) ≤ 1 → among w s.secs ≡ false) v
          (λ h. s.late v (omega (arith, h, times_same v s.before)))
          (λ w apart h. s.late w (omega (arith, h, times_other w v s.before apart)));
      last_is = r.last_is ∙ cond-false (eqb (c.references + 1) 2) (last + 1) last two ∙ s.last_is;
      few = ap suc s.few;
      secs_few = omega (arith, s.secs_few);
      onward = ap (λ (xs : List ℕ). s.secs ++ xs) (sym now) ∙ s.onward;
    }

pub so_far_more :
    (g : List Vertex) (v : ℕ) (rest : List ℕ) (i : ℕ) (t t' : List Counted) (last last' : ℕ) → SoFar g (v ∷ rest) i t last → Countable t last v
    → Referred t last v t' last' → SoFar g rest (suc i) t' last'
so_far_more g v rest i t t' last last' s can r =
    ⊎_elim (λ once. second g v rest i t t' last last' s can r once) (λ other. another g v rest i t t' last last' s can r other) (cases_eq (times v s.before) 1)

-- the root's own links
abbrev pub root_links : List Vertex → List ℕ
root_links [] = []
root_links (x ∷ g) = x.links

references_are : (g : List Vertex) → 1 ≤ length g → references g ≡ 1 ∷ root_links g
references_are [] some = absurd (omega arith)
references_are (x ∷ g) some = refl

pub so_far_none : (g : List Vertex) (t : List Counted) (last : ℕ) → Ready g t last → SoFar g (1 ∷ root_links g) 0 t last
so_far_none g t last r =
    record {
      before = [];
      secs = [];
      refs = λ v. ap (λ (x : Counted). x.references) (r.empty v);
      anchors = λ v. ap (λ (x : Counted). x.anchor) (r.empty v);
      unmet = λ v. ap (λ (x : Counted). x.serialized) (r.empty v);
      late = λ v h. refl;
      last_is = r.last_is;
      few = refl;
      secs_few = omega arith;
      onward = ap (λ (xs : List ℕ). seconds_after [] xs) (sym (references_are g r.some));
    }

-- the next reference can be counted
pub countable : (g : List Vertex) (rest : List ℕ) (i : ℕ) (t : List Counted) (last v : ℕ) → SoFar g rest i t last → 1 ≤ v → v ≤ length t → i ≤ 16384 + 1 → Countable t last v
countable g rest i t last v s low high few =
    record {
      low = low;
      high = high;
      few = omega (arith, s.refs v, times_few v s.before, s.few);
      last_few = omega (arith, s.last_is, s.secs_few);
    }
