-- The walk told by visits is the walk told by steps.
use Rattle.std.proofs.Common.{◌≡◌, ℕ, suc, ◌≤◌, List, [], ◌∷◌, ◌++◌, length, sym, refl, ap, ◌∙◌, subst, subst₂, arith}
use mathlib.Core.Path.{subst₃}
use Rattle.std.proofs.lemmas.List.{append-nil, append_assoc, same_from_push, length_push}
use Rattle.model.specs.Graph.{Vertex}
use Rattle.serial.specs.Walk.{Token, first, again, leave, Spot, spot, Step, met, leaf, into, out, Steps, none, more, Walk}
use Rattle.serial.specs.Walks.{Visit, visit_again, visit_leaf, visit_into, Visits, no_visit, visit_more}
use Rattle.serial.proofs.Determined.{finished}
use Rattle.serial.proofs.Deep.{steps_append}

-- Visits are steps: the children visited are gone from the innermost spot, and nothing else of the stack has changed.
mutual
  pub visit_steps : {g : List Vertex} {deep depth v : ℕ} {seen seen' : List ℕ} {ts : List Token} → Visit g deep depth seen v ts seen'
      → (u : ℕ) (rest : List ℕ) (stack : List Spot) → length stack ≡ depth → depth ≤ deep
      → Steps g deep (spot u (v ∷ rest) ∷ stack) seen (spot u rest ∷ stack) seen' ts
  visit_steps {g} {deep} {v = v} {seen = n} (visit_again a p q) u rest stack e l =
      subst₂ (λ m us. Steps g deep (spot u (v ∷ rest) ∷ stack) n (spot u rest ∷ stack) m us) (sym q) (sym p) (more (met a) (omega arith) none)
  visit_steps {g} {deep} {v = v} {seen = n} (visit_leaf a b c p q) u rest stack e l =
      subst₂ (λ m us. Steps g deep (spot u (v ∷ rest) ∷ stack) n (spot u rest ∷ stack) m us) (sym q) (sym p) (more (leaf a b c) (omega arith) none)
  visit_steps {g} {deep} {v = v} {seen = n} {seen' = m} (visit_into {inner = us} {x = x} a b c o vs p) u rest stack e l =
      let below = visits_steps vs v [] (spot u rest ∷ stack) (omega arith) o in
      let down : Steps g deep (spot v x.links ∷ (spot u rest ∷ stack)) (v ∷ n) (spot v [] ∷ (spot u rest ∷ stack)) m us
      = subst (λ ws. Steps g deep (spot v ws ∷ (spot u rest ∷ stack)) (v ∷ n) (spot v [] ∷ (spot u rest ∷ stack)) m us) (append-nil x.links) below in
      subst (λ ys. Steps g deep (spot u (v ∷ rest) ∷ stack) n (spot u rest ∷ stack) m ys) (sym p)
      (more (into a b c) (omega arith) (steps_append down (more out (omega arith) none)))

  pub visits_steps : {g : List Vertex} {deep depth : ℕ} {seen vs seen' : List ℕ} {ts : List Token} → Visits g deep depth seen vs ts seen'
      → (u : ℕ) (rest : List ℕ) (stack : List Spot) → length stack ≡ depth → depth ≤ deep
      → Steps g deep (spot u (vs ++ rest) ∷ stack) seen (spot u rest ∷ stack) seen' ts
  visits_steps {g} {deep} {seen = n} (no_visit p q r) u rest stack e l =
      subst₃ (λ ws us m. Steps g deep (spot u (ws ++ rest) ∷ stack) n (spot u rest ∷ stack) m us) (sym p) (sym q) (sym r) none
  visits_steps {g} {deep} {seen = n} {seen' = m} (visit_more {v = v} {vs = ws} before w p q) u rest stack e l =
      subst₂ (λ zs ys. Steps g deep (spot u zs ∷ stack) n (spot u rest ∷ stack) m ys) (sym (ap (λ k. k ++ rest) p ∙ append_assoc ws (v ∷ []) rest)) (sym q)
      (steps_append (visits_steps before u (v ∷ rest) stack e l) (visit_steps w u rest stack e l))

-- The visit of the root is the walk.
pub visit_walk : {g : List Vertex} {deep : ℕ} {ts : List Token} {seen : List ℕ} → Visit g deep 0 [] 1 ts seen → Walk g deep ts seen
visit_walk v = record { steps = visit_steps v 0 [] [] refl (omega arith) }

-- the visits of the root alone are the walk
pub visits_walk : {g : List Vertex} {deep : ℕ} {ts : List Token} {seen : List ℕ} → Visits g deep 0 [] (1 ∷ []) ts seen → Walk g deep ts seen
visits_walk vs = record { steps = visits_steps vs 0 [] [] refl (omega arith) }

-- a visit before others
pub visits_first : {g : List Vertex} {deep depth v : ℕ} {seen mid vs seen' : List ℕ} {us ts : List Token}
    → Visit g deep depth seen v us mid → Visits g deep depth mid vs ts seen' → Visits g deep depth seen (v ∷ vs) (us ++ ts) seen'
visits_first {g} {deep} {depth} {v} {seen = n} {us = us} w (no_visit p q r) =
    visit_more (no_visit refl refl refl) (subst (λ m. Visit g deep depth n v us m) (sym r) w) (ap (λ k. v ∷ k) p) (ap (λ k. us ++ k) q ∙ append-nil us)
visits_first {v = v} {us = us} w (visit_more {ts = ts} {us = ys} before x p q) =
    visit_more (visits_first w before) x (ap (λ k. v ∷ k) p) (ap (λ k. us ++ k) q ∙ sym (append_assoc us ts ys))

-- what is left of the walk, told by visits: the children of the innermost spot, then its end, and then those of the spots around it
mutual
  data Done (g : List Vertex) (deep : ℕ) : List Spot → List ℕ → List Token → List ℕ → Type 0 where
    done : {u : ℕ} {vs : List ℕ} {stack : List Spot} {n mid m : List ℕ} {us rest ts : List Token}
        → Visits g deep (length stack) n vs us mid → After g deep u stack mid rest m → ts ≡ us ++ rest → Done g deep (spot u vs ∷ stack) n ts m

  data After (g : List Vertex) (deep : ℕ) : ℕ → List Spot → List ℕ → List Token → List ℕ → Type 0 where
    over : {u : ℕ} {n : List ℕ} → After g deep u [] n [] n
    back : {v u : ℕ} {vs : List ℕ} {stack : List Spot} {n m : List ℕ} {ts : List Token}
        → Done g deep (spot u vs ∷ stack) n ts m → After g deep v (spot u vs ∷ stack) n (leave v ∷ ts) m

step_done : {g : List Vertex} {deep : ℕ} {s s' : List Spot} {n n' m : List ℕ} {t : Token} {ts : List Token}
    → Step g s n t s' n' → length s' ≤ suc deep → Done g deep s' n' ts m → Done g deep s n (t ∷ ts) m
step_done (met {v = v} a) l (done w aft e) = done (visits_first (visit_again a refl refl) w) aft (ap (λ k. again v ∷ k) e)
step_done (leaf {v = v} a b c) l (done w aft e) = done (visits_first (visit_leaf a b c refl refl) w) aft (ap (λ k. first v ∷ k) e)
step_done (into {v = v} a b c) l (done {us = us} w (back (done {us = ys} {rest = zs} w' aft e')) e) =
    done (visits_first (visit_into a b c (omega arith) w refl) w') aft
    (ap (λ k. first v ∷ k) (e ∙ ap (λ k. us ++ (leave v ∷ k)) e' ∙ simp append_assoc))
step_done out l d = done (no_visit refl refl refl) (back d) refl

steps_done : {g : List Vertex} {deep : ℕ} {s e : List Spot} {n m : List ℕ} {ts : List Token} → Steps g deep s n e m ts → e ≡ finished → Done g deep s n ts m
steps_done {g} {deep} {n = n} none f = subst (λ s. Done g deep s n [] n) (sym f) (done (no_visit refl refl refl) over refl)
steps_done (more st l rest) f = step_done st l (steps_done rest f)

-- Where there is a walk, it is told by visits too.
pub walk_visits : {g : List Vertex} {deep : ℕ} {ts : List Token} {seen : List ℕ} → Walk g deep ts seen → Visits g deep 0 [] (1 ∷ []) ts seen
walk_visits w = whole (steps_done w.steps refl)
  where
    whole : {g : List Vertex} {deep u : ℕ} {vs n m : List ℕ} {ts : List Token} → Done g deep (spot u vs ∷ []) n ts m → Visits g deep 0 n vs ts m
    whole {g} {deep} {vs = vs} {n} {m} (done {us = us} v over e) = subst (λ k. Visits g deep 0 n vs k m) (sym (append-nil us) ∙ sym e) v

visits_none : {g : List Vertex} {deep depth : ℕ} {seen vs seen' : List ℕ} {ts : List Token} → Visits g deep depth seen vs ts seen' → vs ≡ [] → (ts ≡ []) × (seen' ≡ seen)
visits_none (no_visit p q r) e = (q, r)
visits_none (visit_more {v = v} {vs = ws} before w p q) e = absurd (omega (arith, ap length (sym p ∙ e), length_push ws v))

-- the visits of one node are its visit
pub visits_one : {g : List Vertex} {deep depth v : ℕ} {seen vs seen' : List ℕ} {ts : List Token} → Visits g deep depth seen vs ts seen' → vs ≡ v ∷ [] → Visit g deep depth seen v ts seen'
visits_one (no_visit p q r) e = absurd (omega (arith, ap length (sym p ∙ e)))
visits_one {g} {deep} {depth} {v} {seen = n} {seen' = m} {ts = ts} (visit_more {v = w} {mid = k} {vs = ws} {us = us} before x p q) e =
    let same = same_from_push ws [] w v (sym p ∙ e) in
    let start = visits_none before same.0 in
    subst₂ (λ z ys. Visit g deep depth n z ys m) same.1 (sym (q ∙ ap (λ k. k ++ us) start.0))
    (subst (λ z. Visit g deep depth z w us m) start.1 x)

-- Where there is a walk, it is the visit of the root.
pub walk_visit : {g : List Vertex} {deep : ℕ} {ts : List Token} {seen : List ℕ} → Walk g deep ts seen → Visit g deep 0 [] 1 ts seen
walk_visit w = visits_one (walk_visits w) refl
