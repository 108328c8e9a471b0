-- The anchors that serializing gives tell the nodes apart.
use Rattle.std.proofs.Common.{◌≡◌, ℕ, zero, suc, ◌+◌, ◌/◌, ◌%◌, ◌<◌, ◌≤◌, true, false, cond, ◌||◌, eqb, ltb, ◌≢◌, ◌⊎◌, List, [], ◌∷◌, length, codes, sym, refl, ap, ◌∙◌, subst, inl, inr, arith}
use Rattle.std.proofs.lemmas.List.{append_cancel_left}
use Rattle.std.proofs.lemmas.Bool.{both_ways, eqb-true, eqb-false, eq-eqb, ne_eqb, or_cases, or_parts, or_from, or_left, or_right, cases_Bool, cond-true, cond-false}
use Rattle.model.specs.Graph.{Vertex}
use Rattle.serial.specs.Walk.{among}
use Rattle.serial.specs.Numbering.{times, references, seconds_after, seconds, place_from, number_of, digits, name, anchor_of}
use Rattle.serial.specs.RoundTrip.{Sound, RoundTripAnchored}
use Rattle.serial.proofs.Standing.{Distinct}
use Rattle.serial.proofs.Paths.{round_trip}

-- how many numbers of a list are counted: each node gets its number once
times_grow : (v w : ℕ) (before : List ℕ) → times v before ≤ times v (w ∷ before)
times_grow v w before = elim (cases_Bool (eqb v w)) [ inl e ↦ rw e (omega arith) | inr e ↦ rw e (omega arith) ]

times_same : (v : ℕ) (before : List ℕ) → times v (v ∷ before) ≡ suc (times v before)
times_same v before = rw (eq-eqb v v refl) refl

not_later : (v : ℕ) (before vs : List ℕ) → 2 ≤ times v before → among v (seconds_after before vs) ≡ false
not_later v before [] h = refl
not_later v before (w ∷ vs) h =
    let more : among v (seconds_after (w ∷ before) vs) ≡ false = not_later v (w ∷ before) vs (omega (arith, times_grow v w before)) in
    elim (cases_Bool (eqb (times w before) 1)) [
      | inl e ↦ rw e (or_from (eqb v w) _ (ne_eqb v w (λ q. omega (arith, eqb-true (times w before) 1 e, ap (λ i. times i before) q))) more)
      | inr e ↦ rw e more
    ]

distinct_seconds : (before vs : List ℕ) → Distinct (seconds_after before vs)
distinct_seconds before [] = tt
distinct_seconds before (w ∷ vs) = elim (cases_Bool (eqb (times w before) 1)) [
  | inl e ↦ rw e (not_later w (w ∷ before) vs (omega (arith, times_same w before, eqb-true (times w before) 1 e)), distinct_seconds (w ∷ before) vs)
  | inr e ↦ rw e (distinct_seconds (w ∷ before) vs)
]

seconds_among : (v : ℕ) (before vs : List ℕ) → among v (seconds_after before vs) ≡ true → among v vs ≡ true
seconds_among v before [] h = h
seconds_among v before (w ∷ vs) h = elim (cases_Bool (eqb (times w before) 1)) [
  | inl e ↦ let p : (eqb v w || among v (seconds_after (w ∷ before) vs)) ≡ true = rw e at h in
      elim (or_cases (eqb v w) _ p) [ inl q ↦ or_left (eqb v w) (among v vs) q | inr m ↦ or_right (eqb v w) (among v vs) (seconds_among v (w ∷ before) vs m) ]
  | inr e ↦ let p : among v (seconds_after (w ∷ before) vs) ≡ true = rw e at h in or_right (eqb v w) (among v vs) (seconds_among v (w ∷ before) vs p)
]

-- different numbers from 1 to n are at most n
abbrev without : ℕ → List ℕ → List ℕ
without n [] = []
without n (v ∷ vs) = cond (eqb v n) (without n vs) (v ∷ without n vs)

without_among : (n v : ℕ) (vs : List ℕ) → among v (without n vs) ≡ true → (among v vs ≡ true) × (v ≡ n → ⊥)
without_among n v [] h = let z : ◌≡◌ {A = ℕ} 0 1 = cc in absurd (omega (arith, z))
without_among n v (w ∷ vs) h = elim (cases_Bool (eqb w n)) [
  | inl e ↦ let m : among v (without n vs) ≡ true = rw e at h in let r = without_among n v vs m in (or_right (eqb v w) (among v vs) r.0, r.1)
  | inr e ↦ let m : (eqb v w || among v (without n vs)) ≡ true = rw e at h in
      elim (or_cases (eqb v w) (among v (without n vs)) m) [
        | inl q ↦ (or_left (eqb v w) (among v vs) q, λ i. eqb-false w n e (sym (eqb-true v w q) ∙ i))
        | inr q ↦ let r = without_among n v vs q in (or_right (eqb v w) (among v vs) r.0, r.1)
      ]
]

without_none : (n v : ℕ) (vs : List ℕ) → among v vs ≡ false → among v (without n vs) ≡ false
without_none n v vs h = elim (cases_Bool (among v (without n vs))) [ inl t ↦ absurd (both_ways _ h (without_among n v vs t).0) | inr f ↦ f ]

without_distinct : (n : ℕ) (vs : List ℕ) → Distinct vs → Distinct (without n vs)
without_distinct n [] d = tt
without_distinct n (v ∷ vs) d = elim (cases_Bool (eqb v n)) [
  | inl e ↦ rw e (without_distinct n vs d.1)
  | inr e ↦ rw e (without_none n v vs d.0, without_distinct n vs d.1)
]

without_same : (n : ℕ) (vs : List ℕ) → among n vs ≡ false → length (without n vs) ≡ length vs
without_same n [] h = refl
without_same n (v ∷ vs) h =
    let p = or_parts (eqb n v) (among n vs) h in
    rw (ne_eqb v n (λ e. eqb-false n v p.0 (sym e))) (ap suc (without_same n vs p.1))

without_length : (n : ℕ) (vs : List ℕ) → Distinct vs → length vs ≤ suc (length (without n vs))
without_length n [] d = omega arith
without_length n (v ∷ vs) d = elim (cases_Bool (eqb v n)) [
  | inl e ↦ rw e (omega (arith, without_same n vs (subst (λ i. among i vs ≡ false) (eqb-true v n e) d.0)))
  | inr e ↦ rw e (omega (arith, without_length n vs d.1))
]

pub fewer : (n : ℕ) (vs : List ℕ) → Distinct vs → ((v : ℕ) → among v vs ≡ true → (1 ≤ v) × (v ≤ n)) → length vs ≤ n
fewer n [] d within = omega arith
fewer zero (v ∷ vs) d within = absurd (omega (arith, within v (or_left (eqb v v) (among v vs) (eq-eqb v v refl))))
fewer (suc n) (v ∷ vs) d within =
    let less : length (without (suc n) (v ∷ vs)) ≤ n = fewer n (without (suc n) (v ∷ vs)) (without_distinct (suc n) (v ∷ vs) d)
    (λ w m. let r = without_among (suc n) w (v ∷ vs) m in let b = within w r.0 in (b.0, omega (arith, b, r.1))) in
    omega (arith, without_length (suc n) (v ∷ vs) d)

references_within : (g : List Vertex) → Sound g → (v : ℕ) → among v (references g) ≡ true → (1 ≤ v) × (v ≤ length g)
references_within [] sound v h = let z : ◌≡◌ {A = ℕ} 0 1 = cc in absurd (omega (arith, z))
references_within (x ∷ g) sound v h = elim (or_cases (eqb v 1) (among v x.links) h) [
  | inl e ↦ (omega (arith, eqb-true v 1 e), omega (arith, eqb-true v 1 e))
  | inr m ↦ (sound.each 1 x refl).links_lead v m
]

-- there are no more numbers than nodes
pub seconds_few : (g : List Vertex) → Sound g → length (seconds g) ≤ length g
seconds_few g sound = fewer (length g) (seconds g) (distinct_seconds [] (references g)) (λ v m. references_within g sound v (seconds_among v [] (references g) m))

-- places in a list
place_within : (k v : ℕ) (ws : List ℕ) → (place_from k v ws ≡ 0) ⊎ ((k ≤ place_from k v ws) × (place_from k v ws < k + length ws))
place_within k v [] = inl refl
place_within k v (w ∷ ws) = elim (cases_Bool (eqb v w)) [
  | inl e ↦ rw e (inr (omega arith, omega arith))
  | inr e ↦ rw e (elim (place_within (suc k) v ws) [ inl z ↦ inl z | inr b ↦ inr (omega arith, omega arith) ])
]

place_apart : (k v w : ℕ) (ws : List ℕ) → 1 ≤ k → place_from k v ws ≡ place_from k w ws → (place_from k v ws ≡ 0 → ⊥) → v ≡ w
place_apart k v w [] l e n = absurd (n refl)
place_apart k v w (x ∷ ws) l e n = elim (cases_Bool (eqb v x)) [
  | inl p ↦ elim (cases_Bool (eqb w x)) [
    | inl q ↦ eqb-true v x p ∙ sym (eqb-true w x q)
    | inr q ↦ let f : k ≡ place_from (suc k) w ws = rw (p, q) at e in absurd (elim (place_within (suc k) w ws) [ inl z ↦ omega arith | inr b ↦ omega arith ])
  ]
  | inr p ↦ elim (cases_Bool (eqb w x)) [
    | inl q ↦ let f : place_from (suc k) v ws ≡ k = rw (p, q) at e in absurd (elim (place_within (suc k) v ws) [ inl z ↦ omega arith | inr b ↦ omega arith ])
    | inr q ↦ let f : place_from (suc k) v ws ≡ place_from (suc k) w ws = rw (p, q) at e in place_apart (suc k) v w ws (omega arith) f (rw p at n)
  ]
]

-- names
abbrev short : ℕ → List ℕ
short n = (48 + n / 100) ∷ ((48 + n / 10 % 10) ∷ ((48 + n % 10) ∷ []))

abbrev long : ℕ → List ℕ
long n = (48 + n / 1000) ∷ ((48 + n / 100 % 10) ∷ ((48 + n / 10 % 10) ∷ ((48 + n % 10) ∷ [])))

short_apart : (n m : ℕ) → short n ≡ short m → n ≡ m
short_apart n m e =
    let a : 48 + n / 100 ≡ 48 + m / 100 = cc in
    let b : 48 + n / 10 % 10 ≡ 48 + m / 10 % 10 = cc in
    let c : 48 + n % 10 ≡ 48 + m % 10 = cc in
    let x : n / 100 ≡ n / 10 / 10 = omega arith in
    let y : m / 100 ≡ m / 10 / 10 = omega arith in
    omega arith

long_apart : (n m : ℕ) → long n ≡ long m → n ≡ m
long_apart n m e =
    let a : 48 + n / 1000 ≡ 48 + m / 1000 = cc in
    let b : 48 + n / 100 % 10 ≡ 48 + m / 100 % 10 = cc in
    let c : 48 + n / 10 % 10 ≡ 48 + m / 10 % 10 = cc in
    let d : 48 + n % 10 ≡ 48 + m % 10 = cc in
    let x : n / 1000 ≡ n / 100 / 10 = omega arith in
    let y : m / 1000 ≡ m / 100 / 10 = omega arith in
    let z : n / 100 ≡ n / 10 / 10 = omega arith in
    let w : m / 100 ≡ m / 10 / 10 = omega arith in
    omega arith

digits_short : (n : ℕ) → ltb n 1000 ≡ true → digits n ≡ short n
digits_short n h = cond-true (ltb n 1000) (short n) (long n) h

digits_long : (n : ℕ) → ltb n 1000 ≡ false → digits n ≡ long n
digits_long n h = cond-false (ltb n 1000) (short n) (long n) h

digits_apart : (n m : ℕ) → digits n ≡ digits m → n ≡ m
digits_apart n m e = elim (cases_Bool (ltb n 1000)) [
  | inl a ↦ elim (cases_Bool (ltb m 1000)) [
    | inl b ↦ short_apart n m (sym (digits_short n a) ∙ e ∙ digits_short m b)
    | inr b ↦ absurd (omega (arith, ap length (sym (digits_short n a) ∙ e ∙ digits_long m b)))
  ]
  | inr a ↦ elim (cases_Bool (ltb m 1000)) [
    | inl b ↦ absurd (omega (arith, ap length (sym (digits_long n a) ∙ e ∙ digits_short m b)))
    | inr b ↦ long_apart n m (sym (digits_long n a) ∙ e ∙ digits_long m b)
  ]
]

pub name_apart : (n m : ℕ) → name n ≡ name m → n ≡ m
name_apart n m e = digits_apart n m (append_cancel_left (codes "id") (digits n) (digits m) e)

anchor_none : (g : List Vertex) (v : ℕ) → number_of g v ≡ 0 → anchor_of g v ≡ []
anchor_none g v h = cond-true (eqb (number_of g v) 0) [] (name (number_of g v)) (eq-eqb (number_of g v) 0 h)

anchor_some : (g : List Vertex) (v : ℕ) → (number_of g v ≡ 0 → ⊥) → anchor_of g v ≡ name (number_of g v)
anchor_some g v h = cond-false (eqb (number_of g v) 0) [] (name (number_of g v)) (ne_eqb (number_of g v) 0 h)

pub anchors_apart : (g : List Vertex) (v w : ℕ) → anchor_of g v ≡ anchor_of g w → anchor_of g v ≢ [] → v ≡ w
anchors_apart g v w e n =
    let p : number_of g v ≡ 0 → ⊥ = λ z. n (anchor_none g v z) in
    let q : number_of g w ≡ 0 → ⊥ = λ z. n (e ∙ anchor_none g w z) in
    place_apart 1 v w (seconds g) (omega arith) (name_apart (number_of g v) (number_of g w) (sym (anchor_some g v p) ∙ e ∙ anchor_some g w q)) p

pub round_trip_anchored : RoundTripAnchored
round_trip_anchored b deep ts seen sound walk given =
    round_trip b deep ts seen (anchor_of b.nodes) sound walk (record { apart = anchors_apart b.nodes; given = given })
