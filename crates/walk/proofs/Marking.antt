-- Marking a node as met, and what the marks weigh.
use Rattle.std.proofs.Common.{◌≡◌, ℕ, zero, suc, ◌+◌, ◌<◌, ◌≤◌, true, false, not, ◌||◌, eqb, List, [], ◌∷◌, length, get_or, set, Some, sym, refl, ap, ◌∙◌, subst, inl, inr, ⊎_elim, arith}
use Rattle.std.proofs.lemmas.Bool.{cases_eq, cases_Bool, eq-eqb, ne_eqb, cond-true, cond-false, or_left}
use Rattle.model.specs.Graph.{Vertex, nth, numbered}
use Rattle.serial.specs.Walk.{among}
use Rattle.serial.specs.Walks.{weight, sum_all}
use Rattle.walk.specs.declared.entry.Counted.{Counted}
use Rattle.walk.specs.Entries.{empty_counted, entry_at, replaced}
use Rattle.walk.specs.Going.{weighed, met_at, Marks, SameAnchors}
use Rattle.walk.proofs.Places.{entry_same, entry_other}

pub weighed_few : (g : List Vertex) (t : List Counted) → weighed g t ≤ sum_all weight g
weighed_few [] t = omega arith
weighed_few (x ∷ g) [] = omega arith
weighed_few (x ∷ g) (c ∷ t) = elim (cases_Bool (eqb c.serialized 0)) [
  | inl e ↦ omega (arith, cond-true (eqb c.serialized 0) 0 (weight x) e, weighed_few g t)
  | inr e ↦ omega (arith, cond-false (eqb c.serialized 0) 0 (weight x) e, weighed_few g t)
]

weighed_set :
    (g : List Vertex) (t : List Counted) (i : ℕ) (x : Vertex) (c : Counted) → nth g i ≡ Some x → i < length t → (get_or t i empty_counted).serialized ≡ 0
    → c.serialized ≡ 1 → weighed g (set t i c) ≡ weight x + weighed g t
weighed_set [] t i x c e room unmet met = let z : ◌≡◌ {A = ℕ} 0 1 = cc in absurd (omega arith)
weighed_set (y ∷ g) [] i x c e room unmet met = absurd (omega arith)
weighed_set (y ∷ g) (b ∷ t) zero x c e room unmet met =
    let same : y ≡ x = cc in
    let weights : weight y ≡ weight x = ap weight same in
    let was = cond-true (eqb b.serialized 0) 0 (weight y) (eq-eqb b.serialized 0 unmet) in
    let is = cond-false (eqb c.serialized 0) 0 (weight y) (ne_eqb c.serialized 0 (λ n. omega (arith, n, met))) in
    omega arith
weighed_set (y ∷ g) (b ∷ t) (suc i) x c e room unmet met =
    let later = weighed_set g t i x c e (omega arith) unmet met in
    omega arith

pub weighed_more :
    (g : List Vertex) (t : List Counted) (v : ℕ) (x : Vertex) (c : Counted) → numbered g v ≡ Some x → v ≤ length t → (entry_at t v).serialized ≡ 0
    → c.serialized ≡ 1 → weighed g (replaced t v c) ≡ weight x + weighed g t
weighed_more g t zero x c e room unmet met = let z : ◌≡◌ {A = ℕ} 0 1 = cc in absurd (omega arith)
weighed_more g t (suc i) x c e room unmet met = weighed_set g t i x c e (omega arith) unmet met

pub met_when : (t : List Counted) (v : ℕ) → ((entry_at t v).serialized ≡ 0 → ⊥) → met_at t v ≡ true
met_when t v some = ap not (ne_eqb (entry_at t v).serialized 0 some)

pub unmet_when : (t : List Counted) (v : ℕ) → (entry_at t v).serialized ≡ 0 → met_at t v ≡ false
unmet_when t v none = ap not (eq-eqb (entry_at t v).serialized 0 none)

pub marks_more : (t : List Counted) (v : ℕ) (c : Counted) (seen : List ℕ) → 1 ≤ v → v ≤ length t → c.serialized ≡ 1 → Marks t seen → Marks (replaced t v c) (v ∷ seen)
marks_more t v c seen low high met marks w =
    ⊎_elim
    (λ same.
    subst (λ u. met_at (replaced t v c) u ≡ among u (v ∷ seen)) (sym same)
    (met_when (replaced t v c) v (λ none. omega (arith, none, met, ap (λ (x : Counted). x.serialized) (entry_same t v c low high))) ∙ sym (or_left (eqb v v) (among v seen) (eq-eqb v v refl))))
    (λ apart.
    ap (λ (x : Counted). not (eqb x.serialized 0)) (entry_other t v w c apart) ∙ marks w
    ∙ sym (ap (λ b. b || among w seen) (ne_eqb w v apart)))
    (cases_eq w v)

pub anchors_kept : (t : List Counted) (v : ℕ) (c : Counted) → 1 ≤ v → v ≤ length t → c.anchor ≡ (entry_at t v).anchor → SameAnchors t (replaced t v c)
anchors_kept t v c low high same w =
    ⊎_elim
    (λ e. subst (λ u. (entry_at (replaced t v c) u).anchor ≡ (entry_at t u).anchor) (sym e) (ap (λ (x : Counted). x.anchor) (entry_same t v c low high) ∙ same))
    (λ apart. ap (λ (x : Counted). x.anchor) (entry_other t v w c apart))
    (cases_eq w v)
