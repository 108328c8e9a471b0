-- Going through a node's links one after the other.
use Rattle.std.proofs.Common.{◌≡◌, ℕ, zero, suc, ◌+◌, ◌*◌, ◌<◌, List, [], ◌∷◌, ◌++◌, length, get_or, take, drop, Some, sym, refl, ap, ◌∙◌, arith}
use Rattle.std.proofs.lemmas.List.{drop-drop, get_or-take, get_or-drop}
use Rattle.model.specs.Graph.{Vertex, nth}
use Rattle.std.specs.Simd.{first_chunks}
use Rattle.document.proofs.Every.{nth_at}
use Rattle.walk.specs.Looks.{links_at, HasLinks, LinksTo}
use Rattle.walk.proofs.Numbers.{root_links}

pub drop_nth : (xs : List ℕ) (i w : ℕ) → nth xs i ≡ Some w → drop i xs ≡ w ∷ drop (suc i) xs
drop_nth [] i w e = let z : ◌≡◌ {A = ℕ} 0 1 = cc in absurd (omega arith)
drop_nth (x ∷ xs) zero w e = let same : x ≡ w = cc in ap (λ y. y ∷ xs) same
drop_nth (x ∷ xs) (suc i) w e = drop_nth xs i w e

pub take_nth : (xs : List ℕ) (i w : ℕ) → nth xs i ≡ Some w → take (suc i) xs ≡ take i xs ++ w ∷ []
take_nth [] i w e = let z : ◌≡◌ {A = ℕ} 0 1 = cc in absurd (omega arith)
take_nth (x ∷ xs) zero w e = let same : x ≡ w = cc in ap (λ y. y ∷ []) same
take_nth (x ∷ xs) (suc i) w e = ap (λ (ys : List ℕ). x ∷ ys) (take_nth xs i w e)

-- the link at a place of those that were read
pub link_at : (g : List Vertex) (v : ℕ) (ws : List ℕ) (i : ℕ) → HasLinks g v ws → i < length ws → LinksTo g v i (get_or ws i 0)
link_at g v ws i h lt = record { link = ap (λ (xs : List ℕ). nth xs i) (sym h.links) ∙ nth_at ws i 0 lt; inside = h.inside i lt }

root_is : (g : List Vertex) → links_at g 1 ≡ root_links g
root_is [] = refl
root_is (x ∷ g) = refl

-- the links of the root, which are read one after the other
pub next_link : (g : List Vertex) (ws : List ℕ) (i : ℕ) → HasLinks g 1 ws → i < length ws → drop i (root_links g) ≡ get_or ws i 0 ∷ drop (i + 1) (root_links g)
next_link g ws i h lt =
    let s : suc i ≡ i + 1 = omega arith in
    let there : nth (root_links g) i ≡ Some (get_or ws i 0) = ap (λ (xs : List ℕ). nth xs i) (sym (h.links ∙ root_is g)) ∙ nth_at ws i 0 lt in
    drop_nth (root_links g) i (get_or ws i 0) there ∙ ap (λ k. get_or ws i 0 ∷ drop k (root_links g)) s

-- links cut into pairs
pair_at : (n i : ℕ) (ws : List ℕ) → i < n → get_or (first_chunks 2 n ws) i [] ≡ take 2 (drop (2 * i) ws)
pair_at zero i ws lt = absurd (omega arith)
pair_at (suc n) zero ws lt = refl
pair_at (suc n) (suc i) ws lt =
    let e : 2 + 2 * i ≡ 2 * suc i = omega arith in
    pair_at n i (drop 2 ws) (omega arith) ∙ ap (take 2) (drop-drop (2 * i) 2 ws ∙ ap (λ k. drop k ws) e)

pub key_at : (n i : ℕ) (ws : List ℕ) → i < n → get_or (get_or (first_chunks 2 n ws) i []) 0 0 ≡ get_or ws (2 * i) 0
key_at n i ws lt =
    let start : 2 * i + 0 ≡ 2 * i = omega arith in
    ap (λ (p : List ℕ). get_or p 0 0) (pair_at n i ws lt) ∙ get_or-take 2 (drop (2 * i) ws) 0 0 (omega arith) ∙ get_or-drop (2 * i) ws 0 0 ∙ ap (λ k. get_or ws k 0) start

pub value_at : (n i : ℕ) (ws : List ℕ) → i < n → get_or (get_or (first_chunks 2 n ws) i []) 1 0 ≡ get_or ws (2 * i + 1) 0
value_at n i ws lt =
    ap (λ (p : List ℕ). get_or p 1 0) (pair_at n i ws lt) ∙ get_or-take 2 (drop (2 * i) ws) 1 0 (omega arith) ∙ get_or-drop (2 * i) ws 1 0
