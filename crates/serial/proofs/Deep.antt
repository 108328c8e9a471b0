-- The bound on the open collections: a walk within one bound is a walk within every greater one.
use Rattle.std.proofs.Common.{ℕ, suc, ◌<◌, ◌≤◌, List, ◌++◌, length, inl, inr, arith}
use Rattle.std.proofs.lemmas.Bool.{cases_lt}
use Rattle.model.specs.Graph.{Vertex}
use Rattle.serial.specs.Walk.{Token, Spot, Steps, none, more, Walk}

module _ {g : List Vertex} where
  -- steps within a bound are steps within a greater one
  pub steps_deeper : {d e : ℕ} {s s' : List Spot} {n n' : List ℕ} {ts : List Token} → d ≤ e → Steps g d s n s' n' ts → Steps g e s n s' n' ts
  steps_deeper h none = none
  steps_deeper h (more st l rest) = more st (omega arith) (steps_deeper h rest)

  -- A walk with at most d collections open is one with at most e open, where d is no more than e.
  pub walk_deeper : {d e : ℕ} {ts : List Token} {seen : List ℕ} → d ≤ e → Walk g d ts seen → Walk g e ts seen
  walk_deeper h w = record { steps = steps_deeper h w.steps }

  -- where no walk exists within e, a walk has more than e collections open at once
  pub no_walk_within : {d e : ℕ} {ts : List Token} {seen : List ℕ} → (Walk g e ts seen → ⊥) → Walk g d ts seen → e < d
  no_walk_within {d = d} {e = e} never w = elim (cases_lt e d) [ inl h ↦ h | inr h ↦ absurd (never (walk_deeper h w)) ]

  -- steps one after the other, then more steps
  pub steps_append : {d : ℕ} {s s' s'' : List Spot} {n n' n'' : List ℕ} {ts us : List Token}
      → Steps g d s n s' n' ts → Steps g d s' n' s'' n'' us → Steps g d s n s'' n'' (ts ++ us)
  steps_append none q = q
  steps_append (more st l rest) q = more st l (steps_append rest q)

  -- no more than `deep` collections, and the document itself, are open after any steps
  pub steps_bounded : {d : ℕ} {s s' : List Spot} {n n' : List ℕ} {ts : List Token} → length s ≤ suc d → Steps g d s n s' n' ts → length s' ≤ suc d
  steps_bounded h none = h
  steps_bounded h (more st l rest) = steps_bounded l rest
