-- There is no second answer to planning.
use Rattle.std.proofs.Common.{◌≡◌, ℕ, List, [], ◌∷◌, ◌++◌, length, Ok, Err, Result, sym, refl, ap, ◌∙◌, subst, arith}
use mathlib.Core.List.Memᴰ
use mathlib.Core.List.{Memᴰ}
use Rattle.model.specs.Graph.{Vertex}
use Rattle.serial.specs.Walk.{Token, again}
use Rattle.serial.specs.Numbering.{number_of}
use Rattle.walk.specs.declared.entry.Counted.{Counted}
use Rattle.walk.specs.declared.entry.Step.{Step}
use Rattle.walk.specs.declared.planning.Unplanned.{Unplanned}
use Rattle.walk.specs.declared.planning.Unplanned.TheVariants.{NoNodes, TooFewCounts, TooDeep, TooFewSteps, NoAnchor}
use Rattle.walk.specs.Plans.{AllNamed, FirstUnnamed, TheWalk, Plans, Determined}

same_walk : {g : List Vertex} {ts us : List Token} {seen met : List ℕ} → TheWalk g ts seen → TheWalk g us met → ts ≡ us
same_walk {g} {ts} {us} {seen} {met} a b = (b.only 256 ts seen a.walk).0

not_both : {g : List Vertex} {ts us : List Token} {v : ℕ} → FirstUnnamed g ts v → AllNamed g us → ts ≡ us → ⊥
not_both {g} {ts} {us} {v} f all e =
    all v (subst (λ (xs : List Token). Memᴰ (again v) xs) (sym f.split ∙ e) (Memᴰ.append_right f.before (Memᴰ.head refl))) f.unnamed

-- the first without an anchor is one node only
first_same : (g : List Vertex) (v w : ℕ) (front other xs ys : List Token) → number_of g v ≡ 0 → number_of g w ≡ 0 → AllNamed g front → AllNamed g other
    → front ++ again v ∷ xs ≡ other ++ again w ∷ ys → v ≡ w
first_same g v w [] [] xs ys none nil all every e = cc
first_same g v w [] (b ∷ other) xs ys none nil all every e =
    let same : again v ≡ b = cc in absurd (every v (Memᴰ.head same) none)
first_same g v w (a ∷ front) [] xs ys none nil all every e =
    let same : again w ≡ a = cc in absurd (all w (Memᴰ.head same) nil)
first_same g v w (a ∷ front) (b ∷ other) xs ys none nil all every e =
    let rest : front ++ again v ∷ xs ≡ other ++ again w ∷ ys = cc in
    first_same g v w front other xs ys none nil (λ u m. all u (Memᴰ.tail m)) (λ u m. every u (Memᴰ.tail m)) rest

one_unnamed : {g : List Vertex} {ts us : List Token} {v w : ℕ} → FirstUnnamed g ts v → FirstUnnamed g us w → ts ≡ us → v ≡ w
one_unnamed {g} {ts} {us} {v} {w} a b e = first_same g v w a.before b.before a.rest b.rest a.unnamed b.unnamed a.others b.others (sym a.split ∙ e ∙ b.split)

-- pair by pair: each two answers exclude one another for a reason of their own
by_answers : (g : List Vertex) (counts : ℕ) (steps : List Step) (t t' : List Counted) (s s' : List Step) (a b : Result ℕ Unplanned) → Plans g counts steps a t s → Plans g counts steps b t' s' → a ≡ b
by_answers g counts steps t t' s s' (Err NoNodes) (Err NoNodes) x y = refl
by_answers g counts steps t t' s s' (Err NoNodes) (Err TooFewCounts) x y = absurd (omega (arith, x, y.some))
by_answers g counts steps t t' s s' (Err NoNodes) (Err TooDeep) x y = absurd (omega (arith, x, y.enough.some))
by_answers g counts steps t t' s s' (Err NoNodes) (Err TooFewSteps) x y = absurd (omega (arith, x, y.enough.some))
by_answers g counts steps t t' s s' (Err NoNodes) (Err (NoAnchor w)) x y = absurd (omega (arith, x, y.enough.some))
by_answers g counts steps t t' s s' (Err NoNodes) (Ok m) x y = absurd (omega (arith, x, y.enough.some))
by_answers g counts steps t t' s s' (Err TooFewCounts) (Err NoNodes) x y = absurd (omega (arith, y, x.some))
by_answers g counts steps t t' s s' (Err TooFewCounts) (Err TooFewCounts) x y = refl
by_answers g counts steps t t' s s' (Err TooFewCounts) (Err TooDeep) x y = absurd (omega (arith, x.few, y.enough.room))
by_answers g counts steps t t' s s' (Err TooFewCounts) (Err TooFewSteps) x y = absurd (omega (arith, x.few, y.enough.room))
by_answers g counts steps t t' s s' (Err TooFewCounts) (Err (NoAnchor w)) x y = absurd (omega (arith, x.few, y.enough.room))
by_answers g counts steps t t' s s' (Err TooFewCounts) (Ok m) x y = absurd (omega (arith, x.few, y.enough.room))
by_answers g counts steps t t' s s' (Err TooDeep) (Err NoNodes) x y = absurd (omega (arith, y, x.enough.some))
by_answers g counts steps t t' s s' (Err TooDeep) (Err TooFewCounts) x y = absurd (omega (arith, y.few, x.enough.room))
by_answers g counts steps t t' s s' (Err TooDeep) (Err TooDeep) x y = refl
by_answers g counts steps t t' s s' (Err TooDeep) (Err TooFewSteps) x y = absurd (x.too_deep y.tokens y.seen y.walk.walk)
by_answers g counts steps t t' s s' (Err TooDeep) (Err (NoAnchor w)) x y = absurd (x.too_deep y.tokens y.seen y.walk.walk)
by_answers g counts steps t t' s s' (Err TooDeep) (Ok m) x y = absurd (x.too_deep y.tokens y.seen y.walk.walk)
by_answers g counts steps t t' s s' (Err TooFewSteps) (Err NoNodes) x y = absurd (omega (arith, y, x.enough.some))
by_answers g counts steps t t' s s' (Err TooFewSteps) (Err TooFewCounts) x y = absurd (omega (arith, y.few, x.enough.room))
by_answers g counts steps t t' s s' (Err TooFewSteps) (Err TooDeep) x y = absurd (y.too_deep x.tokens x.seen x.walk.walk)
by_answers g counts steps t t' s s' (Err TooFewSteps) (Err TooFewSteps) x y = refl
by_answers g counts steps t t' s s' (Err TooFewSteps) (Err (NoAnchor w)) x y = absurd (omega (arith, x.few, y.fits, ap length (same_walk x.walk y.walk)))
by_answers g counts steps t t' s s' (Err TooFewSteps) (Ok m) x y = absurd (omega (arith, x.few, y.fits, ap length (same_walk x.walk y.walk)))
by_answers g counts steps t t' s s' (Err (NoAnchor v)) (Err NoNodes) x y = absurd (omega (arith, y, x.enough.some))
by_answers g counts steps t t' s s' (Err (NoAnchor v)) (Err TooFewCounts) x y = absurd (omega (arith, y.few, x.enough.room))
by_answers g counts steps t t' s s' (Err (NoAnchor v)) (Err TooDeep) x y = absurd (y.too_deep x.tokens x.seen x.walk.walk)
by_answers g counts steps t t' s s' (Err (NoAnchor v)) (Err TooFewSteps) x y = absurd (omega (arith, y.few, x.fits, ap length (same_walk y.walk x.walk)))
by_answers g counts steps t t' s s' (Err (NoAnchor v)) (Err (NoAnchor w)) x y = ap (λ k. Err (NoAnchor k)) (one_unnamed x.first_one y.first_one (same_walk x.walk y.walk))
by_answers g counts steps t t' s s' (Err (NoAnchor v)) (Ok m) x y = absurd (not_both x.first_one y.named (same_walk x.walk y.walk))
by_answers g counts steps t t' s s' (Ok n) (Err NoNodes) x y = absurd (omega (arith, y, x.enough.some))
by_answers g counts steps t t' s s' (Ok n) (Err TooFewCounts) x y = absurd (omega (arith, y.few, x.enough.room))
by_answers g counts steps t t' s s' (Ok n) (Err TooDeep) x y = absurd (y.too_deep x.tokens x.seen x.walk.walk)
by_answers g counts steps t t' s s' (Ok n) (Err TooFewSteps) x y = absurd (omega (arith, y.few, x.fits, ap length (same_walk y.walk x.walk)))
by_answers g counts steps t t' s s' (Ok n) (Err (NoAnchor w)) x y = absurd (not_both y.first_one x.named (same_walk y.walk x.walk))
by_answers g counts steps t t' s s' (Ok n) (Ok m) x y = ap Ok (x.count ∙ ap length (same_walk x.walk y.walk) ∙ sym y.count)

pub determined : Determined
determined g counts steps a b t t' s s' x y = by_answers g counts steps t t' s s' a b x y
