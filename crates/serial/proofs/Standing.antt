-- The nodes met, newest first, as a numbering: the first one met is number 1. It only grows.
use Rattle.std.proofs.Common.{◌≡◌, ℕ, zero, suc, ◌≤◌, true, false, eqb, ◌≢◌, List, [], ◌∷◌, ◌++◌, length, set, Some, None, sym, refl, ap, ◌∙◌, subst, ap₂, inl, inr, arith}
use Rattle.std.proofs.lemmas.Bool.{both_ways, eqb-true, eqb-false, eq-eqb, or_cases, or_parts, or_left, or_right, and_parts, and_from, cases_Bool, cond-true, cond-false}
use Rattle.model.specs.Graph.{nth}
use Rattle.serial.specs.Walk.{among}
use Rattle.serial.specs.Serialize.{same_bytes}
use Rattle.serial.specs.Compose.{named, noted, fresh}

-- node k of the nodes met is v
pub data Stands : List ℕ → ℕ → ℕ → Type 0 where
  here : {seen : List ℕ} {k v w : ℕ} → k ≡ suc (length seen) → v ≡ w → Stands (w ∷ seen) k v
  there : {seen : List ℕ} {k v w : ℕ} → Stands seen k v → Stands (w ∷ seen) k v

abbrev pub Distinct : List ℕ → Type 0
Distinct [] = Unit {0}
Distinct (v ∷ vs) = (among v vs ≡ false) × Distinct vs

-- new children stand for old ones, one by one
pub data Matches (seen : List ℕ) : List ℕ → List ℕ → Type 0 where
  nil : Matches seen [] []
  cons : {k v : ℕ} {ks vs : List ℕ} → Stands seen k v → Matches seen ks vs → Matches seen (k ∷ ks) (v ∷ vs)

pub bounds : {seen : List ℕ} {k v : ℕ} → Stands seen k v → (1 ≤ k) × (k ≤ length seen)
bounds (here e f) = (omega arith, omega arith)
bounds (there s) = let b = bounds s in (b.0, omega arith)

pub is_among : {seen : List ℕ} {k v : ℕ} → Stands seen k v → among v seen ≡ true
is_among (here {seen = seen} {v = v} {w = w} e f) = or_left (eqb v w) (among v seen) (eq-eqb v w f)
is_among (there {seen = seen} {v = v} {w = w} s) = or_right (eqb v w) (among v seen) (is_among s)

pub stands_some : (v : ℕ) (seen : List ℕ) → among v seen ≡ true → (k : ℕ) × Stands seen k v
stands_some v [] h = let z : ◌≡◌ {A = ℕ} 0 1 = cc in absurd (omega (arith, z))
stands_some v (w ∷ seen) h = elim (or_cases (eqb v w) (among v seen) h) [
  | inl e ↦ (suc (length seen), here refl (eqb-true v w e))
  | inr m ↦ let r = stands_some v seen m in (r.0, there r.1)
]

-- one node of the nodes met has one number, and one number one node
pub one_old : {seen : List ℕ} {k v w : ℕ} → Stands seen k v → Stands seen k w → v ≡ w
one_old (here e f) (here e' f') = f ∙ sym f'
one_old (here e f) (there s) = absurd (omega (arith, bounds s))
one_old (there s) (here e f) = absurd (omega (arith, bounds s))
one_old (there s) (there s') = one_old s s'

pub one_new : {seen : List ℕ} {k l v : ℕ} → Distinct seen → Stands seen k v → Stands seen l v → k ≡ l
one_new d (here e f) (here e' f') = e ∙ sym e'
one_new d (here {seen = seen} e f) (there s) = absurd (both_ways _ d.0 (subst (λ x. among x seen ≡ true) f (is_among s)))
one_new d (there s) (here {seen = seen} e f) = absurd (both_ways _ d.0 (subst (λ x. among x seen ≡ true) f (is_among s)))
one_new d (there s) (there s') = one_new d.1 s s'

pub matches_grow : {seen seen' ks vs : List ℕ} → ((k v : ℕ) → Stands seen k v → Stands seen' k v) → Matches seen ks vs → Matches seen' ks vs
matches_grow grow nil = nil
matches_grow grow (cons s m) = cons (grow _ _ s) (matches_grow grow m)

pub matches_push : {seen ks vs : List ℕ} {k v : ℕ} → Matches seen ks vs → Stands seen k v → Matches seen (ks ++ k ∷ []) (vs ++ v ∷ [])
matches_push nil s = cons s nil
matches_push (cons t m) s = cons t (matches_push m s)

pub matches_length : {seen ks vs : List ℕ} → Matches seen ks vs → length ks ≡ length vs
matches_length nil = refl
matches_length (cons s m) = ap suc (matches_length m)

-- bytes
pub same_bytes_lem : (a b : List ℕ) → same_bytes a b ≡ true → a ≡ b
same_bytes_lem [] [] h = refl
same_bytes_lem [] (y ∷ b) h = let z : ◌≡◌ {A = ℕ} 0 1 = cc in absurd (omega (arith, z))
same_bytes_lem (x ∷ a) [] h = let z : ◌≡◌ {A = ℕ} 0 1 = cc in absurd (omega (arith, z))
same_bytes_lem (x ∷ a) (y ∷ b) h = let p = and_parts (eqb x y) (same_bytes a b) h in ap₂ ◌∷◌ (eqb-true x y p.0) (same_bytes_lem a b p.1)

pub bytes_same : (a : List ℕ) → same_bytes a a ≡ true
bytes_same [] = refl
bytes_same (x ∷ a) = and_from (eqb x x) (same_bytes a a) (eq-eqb x x refl) (bytes_same a)

pub bytes_differ : (a b : List ℕ) → (a ≡ b → ⊥) → same_bytes a b ≡ false
bytes_differ a b n = elim (cases_Bool (same_bytes a b)) [ inl t ↦ absurd (n (same_bytes_lem a b t)) | inr f ↦ f ]

-- the anchors of the nodes met
abbrev pub names_of : (ℕ → List ℕ) → List ℕ → List (List ℕ × ℕ)
names_of anchors [] = []
names_of anchors (v ∷ seen) = noted (anchors v) (suc (length seen)) (names_of anchors seen)

noted_here : (a : List ℕ) (k : ℕ) (ns : List (List ℕ × ℕ)) → a ≢ [] → named a (noted a k ns) ≡ Some k
noted_here [] k ns n = absurd (n refl)
noted_here (b ∷ bs) k ns n = cond-true (same_bytes (b ∷ bs) (b ∷ bs)) (Some k) (named (b ∷ bs) ns) (bytes_same (b ∷ bs))

noted_other : (a c : List ℕ) (k : ℕ) (ns : List (List ℕ × ℕ)) → (a ≡ c → ⊥) → named a (noted c k ns) ≡ named a ns
noted_other a [] k ns n = refl
noted_other a (b ∷ bs) k ns n = cond-false (same_bytes a (b ∷ bs)) (Some k) (named a ns) (bytes_differ a (b ∷ bs) n)

module _ {anchors : ℕ → List ℕ} (apart : (v w : ℕ) → anchors v ≡ anchors w → anchors v ≢ [] → v ≡ w) where
  pub named_old : {seen : List ℕ} {k v : ℕ} → Distinct seen → Stands seen k v → anchors v ≢ [] → named (anchors v) (names_of anchors seen) ≡ Some k
  named_old d (here {seen = seen} {k = k} {v = v} {w = w} e f) n =
      ap (λ x. named (anchors v) (noted (anchors x) (suc (length seen)) (names_of anchors seen))) (sym f)
      ∙ noted_here (anchors v) (suc (length seen)) (names_of anchors seen) n ∙ ap Some (sym e)
  named_old d (there {seen = seen} {v = v} {w = w} s) n =
      noted_other (anchors v) (anchors w) (suc (length seen)) (names_of anchors seen)
      (λ e. both_ways _ d.0 (subst (λ x. among x seen ≡ true) (apart v w e n) (is_among s)))
      ∙ named_old d.1 s n

  named_new : (v : ℕ) (seen : List ℕ) → among v seen ≡ false → anchors v ≢ [] → named (anchors v) (names_of anchors seen) ≡ None
  named_new v [] h n = refl
  named_new v (w ∷ seen) h n =
      let p = or_parts (eqb v w) (among v seen) h in
      noted_other (anchors v) (anchors w) (suc (length seen)) (names_of anchors seen) (λ e. eqb-false v w p.0 (apart v w e n))
      ∙ named_new v seen p.1 n

  pub fresh_new : (v : ℕ) (seen : List ℕ) → among v seen ≡ false → fresh (anchors v) (names_of anchors seen)
  fresh_new v seen h = by_anchor (anchors v) (named_new v seen h)
    where
      by_anchor : (a : List ℕ) → (a ≢ [] → named a (names_of anchors seen) ≡ None) → fresh a (names_of anchors seen)
      by_anchor [] n = tt
      by_anchor (b ∷ bs) n = n (λ e. let z : ◌≡◌ {A = ℕ} 0 1 = cc in omega (arith, z))

-- elements by number, as a list grows and changes
pub nth_left : {A : Type 0} (xs ys : List A) (i : ℕ) (x : A) → nth xs i ≡ Some x → nth (xs ++ ys) i ≡ Some x
nth_left [] ys i x h = let z : ◌≡◌ {A = ℕ} 0 1 = cc in absurd (omega (arith, z))
nth_left (y ∷ xs) ys zero x h = h
nth_left (y ∷ xs) ys (suc i) x h = nth_left xs ys i x h

pub nth_push : {A : Type 0} (xs : List A) (x : A) → nth (xs ++ x ∷ []) (length xs) ≡ Some x
nth_push [] x = refl
nth_push (y ∷ xs) x = nth_push xs x

pub nth_set : {A : Type 0} (xs : List A) (i : ℕ) (x y : A) → nth xs i ≡ Some x → nth (set xs i y) i ≡ Some y
nth_set [] i x y h = let z : ◌≡◌ {A = ℕ} 0 1 = cc in absurd (omega (arith, z))
nth_set (z ∷ xs) zero x y h = refl
nth_set (z ∷ xs) (suc i) x y h = nth_set xs i x y h

pub nth_set_other : {A : Type 0} (xs : List A) (i j : ℕ) (y : A) → (i ≡ j → ⊥) → nth (set xs i y) j ≡ nth xs j
nth_set_other [] i j y n = refl
nth_set_other (z ∷ xs) zero zero y n = absurd (n refl)
nth_set_other (z ∷ xs) zero (suc j) y n = refl
nth_set_other (z ∷ xs) (suc i) zero y n = refl
nth_set_other (z ∷ xs) (suc i) (suc j) y n = nth_set_other xs i j y (λ e. n (ap suc e))
