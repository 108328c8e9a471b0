-- A call's answer, and the writer after it, are determined by the call and the writer before it.
use Rattle.std.proofs.Common.{◌≡◌, ℕ, ◌+◌, ◌-◌, ◌<◌, ◌≤◌, ◌||◌, List, [], ◌∷◌, ◌++◌, length, sym, refl, ap, ◌∙◌, subst, ap₂, arith}
use Rattle.yaml.specs.declared.sink.Refusal.TheVariants.{NotAllowed, NoSpace}
use Rattle.model.specs.declared.EventKind.TheVariants.{DocumentStart}
use Rattle.model.specs.Events.{Ev}
use Rattle.runs.specs.Writer.{State, Call, Due, total, questions, has_kind, Took, own, sink, Answer, accepted, refused, Accepted, CutOff, Called}
use Rattle.runs.proofs.Wanted.{wants_same, passes_not_fails, one_number, total_append}

took_same : {weight : Ev → ℕ} {s t u : State} {xs ys : List Due} → xs ≡ ys → Took weight s xs t → Took weight s ys u → t.spoilt ≡ u.spoilt → t ≡ u
took_same {weight} {s} {t} {u} {xs} {ys} e j k spoilt = λ i. record { opened = opened i; closed = closed i; spoilt = spoilt i; taken = taken i; room = room i }
  where
    k' : Took weight s xs u
    k' = subst (λ ds. Took weight s ds u) (sym e) k

    opened : t.opened ≡ u.opened
    opened = j.opened ∙ sym k'.opened

    closed : t.closed ≡ u.closed
    closed = j.closed ∙ sym k'.closed

    taken : t.taken ≡ u.taken
    taken = j.taken ∙ sym k'.taken

    room : t.room ≡ u.room
    room = omega (arith, j.room, k'.room)

-- where the events break off is determined by the room
same_cut : (weight : Ev → ℕ) (xs ys : List Due) (x y : Due) (xs' ys' : List Due) (room : ℕ)
    → total weight xs ≤ room → room < total weight xs + weight x.event → total weight ys ≤ room → room < total weight ys + weight y.event
    → xs ++ x ∷ xs' ≡ ys ++ y ∷ ys' → (xs ≡ ys) × (x ≡ y)
same_cut weight [] [] x y xs' ys' room a b c d e = let same : x ≡ y = cc in (refl, same)
same_cut weight [] (z ∷ ys) x y xs' ys' room a b c d e =
    let same : x ≡ z = cc in absurd (omega (arith, ap (λ v. weight v.event) same))
same_cut weight (z ∷ xs) [] x y xs' ys' room a b c d e =
    let same : z ≡ y = cc in absurd (omega (arith, ap (λ v. weight v.event) same))
same_cut weight (z ∷ xs) (v ∷ ys) x y xs' ys' room a b c d e =
    let same : z ≡ v = cc in
    let tail : xs ++ x ∷ xs' ≡ ys ++ y ∷ ys' = cc in
    let w = ap (λ q. weight q.event) same in
    let r = same_cut weight xs ys x y xs' ys' (room - weight z.event) (omega arith) (omega arith) (omega arith) (omega arith) tail in
    (ap₂ (λ p q. p ∷ q) same r.0, r.1)

fits_or_not : (weight : Ev → ℕ) (c : Call) (s : State) (n m v size space : ℕ) (t u : State) → Accepted weight c s n t → CutOff weight c s m v size space u → ⊥
fits_or_not weight c s n m v size space t u j k =
    omega (
      arith,
      ap (total weight) (wants_same c s j.dues (k.done ++ k.next_one ∷ k.left) j.wanted k.wanted),
      total_append weight k.done (k.next_one ∷ k.left),
      j.took.room,
      k.took.room,
      k.too_large,
    )

cut_same : (weight : Ev → ℕ) (c : Call) (s : State) (n m v w size size' space space' : ℕ) (t u : State) → CutOff weight c s n v size space t → CutOff weight c s m w size' space' u
    → (refused n (sink v (NoSpace size space)) ≡ refused m (sink w (NoSpace size' space'))) × (t ≡ u)
cut_same weight c s n m v w size size' space space' t u j k =
    let r = same_cut weight j.done k.done j.next_one k.next_one j.left k.left s.room
    (omega (arith, j.took.room)) (omega (arith, j.took.room, j.too_large)) (omega (arith, k.took.room)) (omega (arith, k.took.room, k.too_large))
    (wants_same c s _ _ j.wanted k.wanted) in
    let state : t ≡ u = took_same r.0 j.took k.took (j.spoilt ∙ ap (λ ds. s.spoilt || has_kind DocumentStart ds) r.0 ∙ sym k.spoilt) in
    let a : n ≡ m = j.counted ∙ ap length r.0 ∙ sym k.counted in
    let b : v ≡ w = j.node_told ∙ ap (λ d. d.node) r.1 ∙ sym k.node_told in
    let d : size ≡ size' = j.size_told ∙ ap (λ d. weight d.event) r.1 ∙ sym k.size_told in
    let e : space ≡ space' = j.space_told ∙ ap (λ x. x.room) state ∙ sym k.space_told in
    ((λ i. refused (a i) (sink (b i) (NoSpace (d i) (e i)))), state)

pub called_same : (weight : Ev → ℕ) (c : Call) (s : State) (a b : Answer) (t u : State) → Called weight c s a t → Called weight c s b u → (a ≡ b) × (t ≡ u)
called_same weight c s (accepted n) (accepted m) t u j k =
    let e = wants_same c s j.dues k.dues j.wanted k.wanted in
    (ap accepted (j.counted ∙ ap length e ∙ sym k.counted), took_same e j.took k.took (j.spoilt ∙ sym k.spoilt))
called_same weight c s (accepted n) (refused m (own q)) t u j k = absurd (passes_not_fails s (questions c) q j.passed k.failed)
called_same weight c s (accepted n) (refused m (sink v NotAllowed)) t u j k = absurd k
called_same weight c s (accepted n) (refused m (sink v (NoSpace size space))) t u j k = absurd (fits_or_not weight c s n m v size space t u j k)
called_same weight c s (refused n (own q)) (accepted m) t u j k = absurd (passes_not_fails s (questions c) q k.passed j.failed)
called_same weight c s (refused n (own q)) (refused m (own r)) t u j k =
    let a : n ≡ m = j.none_taken ∙ sym k.none_taken in
    let b : q ≡ r = one_number s (questions c) q r j.failed k.failed in
    ((λ i. refused (a i) (own (b i))), j.same ∙ sym k.same)
called_same weight c s (refused n (own q)) (refused m (sink v NotAllowed)) t u j k = absurd k
called_same weight c s (refused n (own q)) (refused m (sink v (NoSpace size space))) t u j k = absurd (passes_not_fails s (questions c) q k.passed j.failed)
called_same weight c s (refused n (sink v NotAllowed)) b t u j k = absurd j
called_same weight c s (refused n (sink v (NoSpace size space))) (accepted m) t u j k = absurd (fits_or_not weight c s m n v size space u t k j)
called_same weight c s (refused n (sink v (NoSpace size space))) (refused m (own q)) t u j k = absurd (passes_not_fails s (questions c) q j.passed k.failed)
called_same weight c s (refused n (sink v (NoSpace size space))) (refused m (sink w NotAllowed)) t u j k = absurd k
called_same weight c s (refused n (sink v (NoSpace size space))) (refused m (sink w (NoSpace size' space'))) t u j k = cut_same weight c s n m v w size size' space space' t u j k
