-- Numbers in lists, and nodes by number.
use Rattle.std.proofs.Common.{◌≡◌, ℕ, zero, suc, ◌+◌, ◌<◌, ◌≤◌, Bool, true, false, cond, ◌||◌, eqb, List, [], ◌∷◌, ◌++◌, length, Some, sym, refl, ap, ◌∙◌, subst, ap₂, inl, inr, arith}
use Rattle.std.proofs.lemmas.Bool.{eqb-true, eq-eqb, ne_eqb, or_cases, or_left, or_right}
use Rattle.model.specs.Graph.{Vertex, nth, numbered}
use Rattle.serial.specs.Walk.{among}
use Rattle.serial.specs.Walks.{sum_over, sum_all}

-- each number of the list has the property
abbrev pub Each : (ℕ → Type 0) → List ℕ → Type 0
Each P [] = Unit
Each P (v ∷ vs) = P v × Each P vs

-- what each number of a list has, a number among them has
pub each_among : (P : ℕ → Type 0) (v : ℕ) (vs : List ℕ) → Each P vs → among v vs ≡ true → P v
each_among P v [] e h = let z : ◌≡◌ {A = ℕ} 0 1 = cc in absurd (omega (arith, z))
each_among P v (w ∷ ws) e h = elim (or_cases (eqb v w) (among v ws) h) [ inl q ↦ subst P (sym (eqb-true v w q)) e.0 | inr q ↦ each_among P v ws e.1 q ]

-- a property of the number at every place is one of each number
pub each_placed : (P : ℕ → Type 0) (vs : List ℕ) → ((place w : ℕ) → numbered vs place ≡ Some w → P w) → Each P vs
each_placed P [] h = tt
each_placed P (v ∷ vs) h = (h 1 v refl, each_placed P vs later)
  where
    later : (place w : ℕ) → numbered vs place ≡ Some w → P w
    later zero w e = let z : ◌≡◌ {A = ℕ} 0 1 = cc in absurd (omega (arith, z))
    later (suc i) w e = h (suc (suc i)) w e

-- among two lists joined: among one of them
pub among_append : (v : ℕ) (xs ys : List ℕ) → among v (xs ++ ys) ≡ (among v xs || among v ys)
among_append v [] ys = refl
among_append v (x ∷ xs) ys = grouped (eqb v x) (among_append v xs ys)
  where
    grouped : (b : Bool) → among v (xs ++ ys) ≡ (among v xs || among v ys) → (b || among v (xs ++ ys)) ≡ (b || among v xs || among v ys)
    grouped true h = refl
    grouped false h = h

-- a number that stands at a place is among the list
pub among_placed : (vs : List ℕ) (place w : ℕ) → numbered vs place ≡ Some w → among w vs ≡ true
among_placed [] zero w e = let z : ◌≡◌ {A = ℕ} 0 1 = cc in absurd (omega (arith, z))
among_placed [] (suc i) w e = let z : ◌≡◌ {A = ℕ} 0 1 = cc in absurd (omega (arith, z))
among_placed (v ∷ vs) zero w e = let z : ◌≡◌ {A = ℕ} 0 1 = cc in absurd (omega (arith, z))
among_placed (v ∷ vs) (suc zero) w e = let q : w ≡ v = cc in or_left (eqb w v) (among w vs) (eq-eqb w v q)
among_placed (v ∷ vs) (suc (suc i)) w e = or_right (eqb w v) (among w vs) (among_placed vs (suc i) w e)

-- where the list is long enough, there is an element
pub nth_there : {A : Type 0} (xs : List A) (i : ℕ) → i < length xs → (x : A) × (nth xs i ≡ Some x)
nth_there [] i h = absurd (omega arith)
nth_there (x ∷ xs) zero h = (x, refl)
nth_there (x ∷ xs) (suc i) h = nth_there xs i (omega arith)

-- each number from 1 to the length is that of an element
pub numbered_there : {A : Type 0} (xs : List A) (v : ℕ) → 1 ≤ v → v ≤ length xs → (x : A) × (numbered xs v ≡ Some x)
numbered_there xs zero l h = absurd (omega arith)
numbered_there xs (suc i) l h = nth_there xs i h

-- a number met before the count begins changes nothing
over_below : (f : Vertex → ℕ) (k v : ℕ) (g : List Vertex) (seen : List ℕ) → v < k → sum_over f k g (v ∷ seen) ≡ sum_over f k g seen
over_below f k v [] seen h = refl
over_below f k v (x ∷ g) seen h =
    let e : eqb k v ≡ false = ne_eqb k v (λ q. omega arith) in
    ap₂ (λ b m. cond (b || among k seen) (f x) 0 + m) e (over_below f (suc k) v g seen (omega arith))

over_from : (f : Vertex → ℕ) (k v i : ℕ) (g : List Vertex) (seen : List ℕ) (x : Vertex)
    → v ≡ k + i → among v seen ≡ false → nth g i ≡ Some x → sum_over f k g (v ∷ seen) ≡ f x + sum_over f k g seen
over_from f k v i [] seen x q a h = let z : ◌≡◌ {A = ℕ} 0 1 = cc in absurd (omega (arith, z))
over_from f k v zero (y ∷ g) seen x q a h =
    let here : k ≡ v = omega arith in
    let e : eqb k v ≡ true = eq-eqb k v here in
    let new : among k seen ≡ false = ap (λ n. among n seen) here ∙ a in
    let same : y ≡ x = cc in
    let now : cond (among k (v ∷ seen)) (f y) 0 ≡ f x = ap (λ b. cond (b || among k seen) (f y) 0) e ∙ ap f same in
    let before : cond (among k seen) (f y) 0 ≡ 0 = ap (λ b. cond b (f y) 0) new in
    let rest = over_below f (suc k) v g seen (omega arith) in
    omega arith
over_from f k v (suc i) (y ∷ g) seen x q a h =
    let e : eqb k v ≡ false = ne_eqb k v (λ p. omega arith) in
    let more = over_from f (suc k) v i g seen x (omega arith) a h in
    ap₂ (λ b m. cond (b || among k seen) (f y) 0 + m) e more ∙ omega arith

-- one number more that is new counts once
pub over_more : (f : Vertex → ℕ) (v : ℕ) (g : List Vertex) (seen : List ℕ) (x : Vertex)
    → among v seen ≡ false → numbered g v ≡ Some x → sum_over f 1 g (v ∷ seen) ≡ f x + sum_over f 1 g seen
over_more f zero g seen x a h = let z : ◌≡◌ {A = ℕ} 0 1 = cc in absurd (omega (arith, z))
over_more f (suc i) g seen x a h = over_from f 1 (suc i) i g seen x (omega arith) a h

-- where nothing was met, nothing counts
pub over_nothing : (f : Vertex → ℕ) (k : ℕ) (g : List Vertex) → sum_over f k g [] ≡ 0
over_nothing f k [] = refl
over_nothing f k (x ∷ g) = omega (arith, over_nothing f (suc k) g)

-- the nodes met count no more than all nodes
pub over_total : (f : Vertex → ℕ) (k : ℕ) (g : List Vertex) (seen : List ℕ) → sum_over f k g seen ≤ sum_all f g
over_total f k [] seen = omega arith
over_total f k (x ∷ g) seen = bounded (among k seen) (over_total f (suc k) g seen)
  where
    bounded : (b : Bool) → sum_over f (suc k) g seen ≤ sum_all f g → cond b (f x) 0 + sum_over f (suc k) g seen ≤ f x + sum_all f g
    bounded true h = omega arith
    bounded false h = omega arith
