-- Where a visit would open too many collections there is no walk within that bound.
use Rattle.std.proofs.Common.{◌≡◌, ℕ, suc, ◌≤◌, ◌⊎◌, List, [], ◌∷◌, length, sym, refl, ap, ◌∙◌, subst, ap₂, subst₂, inl, inr, arith}
use Rattle.std.proofs.lemmas.Bool.{cases_lt}
use Rattle.model.specs.Graph.{Vertex}
use Rattle.serial.specs.Walk.{Token, Spot, spot, Step, into, Steps, none, more, Walk}
use Rattle.serial.specs.Walks.{SoundGraph, IsTooDeep, deep_here, deep_below, TooDeepOne, deep_at}
use Rattle.serial.proofs.Determined.{next, step_next, finished}
use Rattle.serial.proofs.Exists.{walk_exists}
use Rattle.serial.proofs.Visiting.{visits_steps}

-- no steps lead from here to the end of the walk
pub record Blocked (g : List Vertex) (deep : ℕ) (s : List Spot) (n : List ℕ) : Type 0 where
  pub never : (e : List Spot) (m : List ℕ) (ts : List Token) → Steps g deep s n e m ts → e ≡ finished → ⊥

no_way : {g : List Vertex} {deep : ℕ} {s k e : List Spot} {n i m : List ℕ} {ts : List Token}
    → (length s ≤ suc deep → Blocked g deep s n) → s ≡ k → n ≡ i → length k ≤ suc deep → Steps g deep k i e m ts → e ≡ finished → ⊥
no_way {g} {deep} {e = e} {m = m} {ts = ts} b p q l rest f =
    (b (omega (arith, ap length p))).never e m ts (subst₂ (λ x y. Steps g deep x y e m ts) (sym p) (sym q) rest) f

-- the one step that can be taken opens too much, or leads to where there is no way on
stopped : {g : List Vertex} {deep : ℕ} {s s' k e : List Spot} {n n' i m : List ℕ} {t : Token} {ts : List Token} → Step g s n t s' n'
    → (length s' ≤ suc deep → Blocked g deep s' n') → s ≡ k → n ≡ i → Steps g deep k i e m ts → e ≡ finished → ⊥
stopped {g} {i = i} st b p q none f =
    let h = step_next st in
    let stop = ap₂ (next g) (p ∙ f) q in
    let z : ◌≡◌ {A = ℕ} 0 1 = cc in omega (arith, z)
stopped {g} {deep} {e = e} {m = m} st b p q (more {ts = ts} st' l rest) f =
    let h = step_next st in
    let h' = step_next st' in
    let both = ap₂ (next g) p q in
    no_way b (cc) (cc) l rest f

blocked_step : {g : List Vertex} {deep : ℕ} {s s' : List Spot} {n n' : List ℕ} {t : Token} → Step g s n t s' n'
    → (length s' ≤ suc deep → Blocked g deep s' n') → Blocked g deep s n
blocked_step st b = record { never = λ e m ts q f. stopped st b refl refl q f }

blocked_steps : {g : List Vertex} {deep : ℕ} {s s' : List Spot} {n n' : List ℕ} {us : List Token} → Steps g deep s n s' n' us → Blocked g deep s' n' → Blocked g deep s n
blocked_steps none b = b
blocked_steps (more st l rest) b = let r = blocked_steps rest b in blocked_step st (λ h. r)

mutual
  blocked : {g : List Vertex} {deep depth v : ℕ} {seen : List ℕ} → IsTooDeep g deep depth seen v
      → (u : ℕ) (rest : List ℕ) (stack : List Spot) → length stack ≡ depth → Blocked g deep (spot u (v ∷ rest) ∷ stack) seen
  blocked (deep_here a b c o) u rest stack e = blocked_step (into a b c) (λ l. absurd (omega arith))
  blocked {g} {deep} {v = v} {seen = n} (deep_below {x = x} a b c o below) u rest stack e =
      let r = blocked_one below v (spot u rest ∷ stack) (omega arith) o in
      blocked_step (into a b c) (λ l. r)

  blocked_one : {g : List Vertex} {deep depth : ℕ} {seen ws : List ℕ} → TooDeepOne g deep depth seen ws
      → (u : ℕ) (stack : List Spot) → length stack ≡ depth → depth ≤ deep → Blocked g deep (spot u ws ∷ stack) seen
  blocked_one {g} {deep} {seen = n} (deep_at rest before at p) u stack e l =
      let r = blocked at u rest stack e in
      subst (λ zs. Blocked g deep (spot u zs ∷ stack) n) (sym p) (blocked_steps (visits_steps before u _ stack e l) r)

-- Where the visit of the root is too deep, the document has no walk within the bound.
pub too_deep_no_walk : {g : List Vertex} {deep : ℕ} {ts : List Token} {seen : List ℕ} → IsTooDeep g deep 0 [] 1 → Walk g deep ts seen → ⊥
too_deep_no_walk t w = (blocked t 0 [] [] refl).never _ _ _ w.steps refl

within_or_not : {g : List Vertex} {d : ℕ} {s e : List Spot} {n m : List ℕ} {ts : List Token} (deep : ℕ) → Steps g d s n e m ts → Steps g deep s n e m ts ⊎ Blocked g deep s n
within_or_not deep none = inl none
within_or_not deep (more {s' = s'} st l rest) = elim (cases_lt (suc deep) (length s')) [
  | inl h ↦ inr (blocked_step st (λ k. absurd (omega arith)))
  | inr h ↦ elim (within_or_not deep rest) [ inl r ↦ inl (more st h r) | inr b ↦ inr (blocked_step st (λ k. b)) ]
]

-- Within any bound a document that can be walked either has a walk or has none.
pub walk_or_none : (g : List Vertex) → SoundGraph g → (deep : ℕ)
    → ((ts : List Token) × (seen : List ℕ) × Walk g deep ts seen) ⊎ ((ts : List Token) (seen : List ℕ) → Walk g deep ts seen → ⊥)
walk_or_none g sound deep =
    let w = walk_exists g sound in
    elim (within_or_not deep w.2.steps) [ inl s ↦ inl (w.0, w.1, record { steps = s }) | inr b ↦ inr (λ ts seen v. b.never _ seen ts v.steps refl) ]
