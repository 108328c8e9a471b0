-- A test of each entry of a list.
use Rattle.std.proofs.Common.{◌≡◌, ℕ, zero, suc, ◌+◌, ◌<◌, ◌≤◌, Bool, true, ◌&&◌, List, [], ◌∷◌, ◌++◌, length, get_or, take, Some, None, sym, refl, ap, ◌∙◌, add-one, arith}
use Rattle.std.proofs.lemmas.List.{take_all}
use Rattle.std.proofs.lemmas.Bool.{and_parts, and_from}
use Rattle.model.specs.Graph.{nth, numbered}
use Rattle.document.specs.declared.node.Node.{Node}
use Rattle.std.specs.List.{list_all}
use Rattle.document.specs.Questions.{kind_right, tag_right, value_right, links_right}

-- all four questions at once
abbrev pub node_right : ℕ → List ℕ → List ℕ → Node → Bool
node_right n links text v = kind_right v && (tag_right text v && (value_right text v && links_right n links v))

pub every_push : {X : Type 0} (p : X → Bool) (xs : List X) (x : X) → list_all p xs ≡ true → p x ≡ true → list_all p (xs ++ x ∷ []) ≡ true
every_push p [] x all one = and_from (p x) true one refl
every_push p (y ∷ ys) x all one =
    let both = and_parts (p y) (list_all p ys) all in
    and_from (p y) (list_all p (ys ++ x ∷ [])) both.0 (every_push p ys x both.1 one)

-- an entry below i passes if the first i do
pub every_nth : {X : Type 0} (p : X → Bool) (xs : List X) (i j : ℕ) (x : X) → list_all p (take i xs) ≡ true → j < i → nth xs j ≡ Some x → p x ≡ true
every_nth p [] i j x all below e = let z : ◌≡◌ {A = ℕ} 0 1 = cc in absurd (omega arith)
every_nth p (y ∷ ys) zero j x all below e = absurd (omega arith)
every_nth p (y ∷ ys) (suc i) zero x all below e =
    let same : y ≡ x = cc in
    ap p (sym same) ∙ (and_parts (p y) (list_all p (take i ys)) all).0
every_nth p (y ∷ ys) (suc i) (suc j) x all below e = every_nth p ys i j x (and_parts (p y) (list_all p (take i ys)) all).1 (omega arith) e

-- a test that follows from another
pub every_weaker : {X : Type 0} (p q : X → Bool) (xs : List X) → ((x : X) → p x ≡ true → q x ≡ true) → list_all p xs ≡ true → list_all q xs ≡ true
every_weaker p q [] h all = refl
every_weaker p q (x ∷ xs) h all =
    let both = and_parts (p x) (list_all p xs) all in
    and_from (q x) (list_all q xs) (h x both.0) (every_weaker p q xs h both.1)

pub nth_at : {X : Type 0} (xs : List X) (i : ℕ) (d : X) → i < length xs → nth xs i ≡ Some (get_or xs i d)
nth_at [] i d h = absurd (omega arith)
nth_at (x ∷ xs) zero d h = refl
nth_at (x ∷ xs) (suc i) d h = nth_at xs i d (omega arith)

pub nth_below : {X : Type 0} (xs : List X) (i : ℕ) (x : X) → nth xs i ≡ Some x → i < length xs
nth_below [] i x e = let z : ◌≡◌ {A = ℕ} 0 1 = cc in absurd (omega arith)
nth_below (y ∷ xs) zero x e = omega arith
nth_below (y ∷ xs) (suc i) x e = let h = nth_below xs i x e in omega arith

pub nth_past : {X : Type 0} (xs : List X) (i : ℕ) → length xs ≤ i → nth xs i ≡ None
nth_past [] i h = refl
nth_past (x ∷ xs) zero h = absurd (omega arith)
nth_past (x ∷ xs) (suc i) h = nth_past xs i (omega arith)

pub numbered_at : {X : Type 0} (xs : List X) (i : ℕ) (d : X) → i < length xs → numbered xs (i + 1) ≡ Some (get_or xs i d)
numbered_at xs i d h = rw add-one (nth_at xs i d h)

-- an entry of a number up to i passes if the first i do
pub every_numbered : {X : Type 0} (p : X → Bool) (xs : List X) (i j : ℕ) (x : X) → list_all p (take i xs) ≡ true → j ≤ i → numbered xs j ≡ Some x → p x ≡ true
every_numbered p xs i zero x all below e = let z : ◌≡◌ {A = ℕ} 0 1 = cc in absurd (omega arith)
every_numbered p xs i (suc j) x all below e = every_nth p xs i j x all (omega arith) e

pub numbered_below : {X : Type 0} (xs : List X) (j : ℕ) (x : X) → numbered xs j ≡ Some x → j ≤ length xs
numbered_below xs zero x e = omega arith
numbered_below xs (suc j) x e = let h = nth_below xs j x e in omega arith

-- an entry passes if all do
pub every_at : {X : Type 0} (p : X → Bool) (xs : List X) (j : ℕ) (x : X) → list_all p xs ≡ true → numbered xs j ≡ Some x → p x ≡ true
every_at p xs j x all e =
    every_numbered p xs (length xs) j x (ap (list_all p) (take_all (length xs) xs (omega arith)) ∙ all) (numbered_below xs j x e) e
