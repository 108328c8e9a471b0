-- A document has at most one walk.
use Rattle.std.proofs.Common.{◌≡◌, ℕ, Bool, true, false, List, [], ◌∷◌, Some, None, Option, sym, refl, ap, ◌∙◌, ap₂, arith}
use Rattle.model.specs.Graph.{Vertex, numbered}
use Rattle.serial.specs.Walk.{Token, first, again, leave, Spot, spot, among, is_collection, Step, met, leaf, into, out, Steps, none, more, Walk}

-- what a step leads to, as a function
pub data Next : Type 0 where
  nowhere : Next
  to : Token → List Spot → List ℕ → Next

abbrev entering : Bool → List ℕ → ℕ → ℕ → List ℕ → List Spot → List ℕ → Next
entering false links u v rest stack seen = to (first v) (spot u rest ∷ stack) (v ∷ seen)
entering true links u v rest stack seen = to (first v) (spot v links ∷ (spot u rest ∷ stack)) (v ∷ seen)

abbrev meeting : Option Vertex → ℕ → ℕ → List ℕ → List Spot → List ℕ → Next
meeting None u v rest stack seen = nowhere
meeting (Some x) u v rest stack seen = entering (is_collection x.look.kind) x.links u v rest stack seen

abbrev coming : Bool → Option Vertex → ℕ → ℕ → List ℕ → List Spot → List ℕ → Next
coming true o u v rest stack seen = to (again v) (spot u rest ∷ stack) seen
coming false o u v rest stack seen = meeting o u v rest stack seen

abbrev leaving : ℕ → List Spot → List ℕ → Next
leaving v [] seen = nowhere
leaving v (spot u rest ∷ stack) seen = to (leave v) (spot u rest ∷ stack) seen

abbrev pub next : List Vertex → List Spot → List ℕ → Next
next g [] seen = nowhere
next g (spot v [] ∷ stack) seen = leaving v stack seen
next g (spot u (v ∷ rest) ∷ stack) seen = coming (among v seen) (numbered g v) u v rest stack seen

-- the step is the one that the function tells
pub step_next : {g : List Vertex} {s s' : List Spot} {n n' : List ℕ} {t : Token} → Step g s n t s' n' → next g s n ≡ to t s' n'
step_next (met a) = rw a
step_next (leaf a b c) = rw (a, b, c)
step_next (into a b c) = rw (a, b, c)
step_next out = refl

abbrev pub finished : List Spot
finished = spot 0 [] ∷ []

-- from one state to the end there is one list of tokens, and the nodes met are the same
pub steps_same : {g : List Vertex} {d d' : ℕ} {s s' e e' : List Spot} {n n' m m' : List ℕ} {ts ts' : List Token}
    → Steps g d s n e m ts → Steps g d' s' n' e' m' ts' → s ≡ s' → n ≡ n' → e ≡ finished → e' ≡ finished → (ts ≡ ts') × (m ≡ m')
steps_same none none p q f f' = (refl, q)
steps_same {g = g} {n' = k} none (more st l rest) p q f f' =
    let h = step_next st in
    let stop = ap (λ x. next g x k) (sym p ∙ f) in
    let z : ◌≡◌ {A = ℕ} 0 1 = cc in absurd (omega (arith, z))
steps_same {g = g} {n = k} (more st l rest) none p q f f' =
    let h = step_next st in
    let stop = ap (λ x. next g x k) (p ∙ f') in
    let z : ◌≡◌ {A = ℕ} 0 1 = cc in absurd (omega (arith, z))
steps_same {g = g} (more st l rest) (more st' l' rest') p q f f' =
    let h = step_next st in
    let h' = step_next st' in
    let both = ap₂ (next g) p q in
    let r = steps_same rest rest' (cc) (cc) f f' in
    let same = r.0 in
    (cc, r.1)

-- Two walks of one document have the same tokens, and meet the same nodes in the same order.
pub walk_same : {g : List Vertex} {d d' : ℕ} {ts ts' : List Token} {seen seen' : List ℕ} → Walk g d ts seen → Walk g d' ts' seen' → (ts ≡ ts') × (seen ≡ seen')
walk_same w w' = steps_same w.steps w'.steps refl refl refl refl
