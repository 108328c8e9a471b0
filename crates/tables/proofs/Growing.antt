-- Several entries put on top one by one, and several taken off.
use Rattle.std.proofs.Common.{◌≡◌, ℕ, ◌+◌, ◌-◌, ◌<◌, ◌≤◌, List, [], ◌∷◌, ◌++◌, length, get_or, take, drop, set, replicate, sym, refl, ap, ◌∙◌, arith, length-set}
use Rattle.tables.specs.Growing.{Growing}
use Rattle.std.proofs.lemmas.List.{append-nil, append_assoc, length-take, take_more, take_more_set, take_at, take-take, drop_at, drop-drop, drop-set-lt, take-append-drop, replicate_more}

pub growing_more : {X : Type 0} (old new entries : List X) (held i : ℕ) (d y : X) → i < length entries → held + i < length old → y ≡ get_or entries i d
    → Growing old new entries held i → Growing old (set new (held + i) y) entries held (i + 1)
growing_more old new entries held i d y inside room is g =
    let one : held + (i + 1) ≡ (held + i) + 1 = omega arith in
    let long = g.long in
    record {
      front = ap (λ n. take n (set new (held + i) y)) one ∙ take_more_set new (held + i) y (omega arith)
          ∙ ap (λ xs. xs ++ y ∷ []) g.front ∙ append_assoc (take held old) (take i entries) (y ∷ [])
          ∙ ap (λ z. take held old ++ (take i entries ++ z ∷ [])) is ∙ ap (λ xs. take held old ++ xs) (sym (take_more entries i d inside));
      rest = ap (λ n. drop n (set new (held + i) y)) one ∙ drop-set-lt ((held + i) + 1) new (held + i) y (omega arith)
          ∙ sym (drop-drop 1 (held + i) new) ∙ ap (drop 1) g.rest ∙ drop-drop 1 (held + i) old ∙ ap (λ n. drop n old) (sym one);
      long = length-set new (held + i) y ∙ long;
    }

-- places from n to `place` are empty
pub record Emptied {X : Type 0} (empty : X) (old new : List X) (n place : ℕ) : Type 0 where
  pub front : take place new ≡ take n old ++ replicate (place - n) empty
  pub rest : drop place new ≡ drop place old
  pub long : length new ≡ length old

pub emptied_none : {X : Type 0} (empty : X) (old : List X) (n : ℕ) → Emptied empty old old n n
emptied_none empty old n =
    let none : n - n ≡ 0 = omega arith in
    record { front = sym (append-nil (take n old)) ∙ ap (λ k. take n old ++ replicate k empty) (sym none); rest = refl; long = refl }

pub emptied_more : {X : Type 0} (empty : X) (old new : List X) (n place : ℕ) (y : X) → n ≤ place → place < length old → y ≡ empty
    → Emptied empty old new n place → Emptied empty old (set new place y) n (place + 1)
emptied_more empty old new n place y from room is g =
    let one : (place - n) + 1 ≡ (place + 1) - n = omega arith in
    let long = g.long in
    record {
      front = take_more_set new place y (omega arith) ∙ ap (λ xs. xs ++ y ∷ []) g.front ∙ append_assoc (take n old) (replicate (place - n) empty) (y ∷ [])
          ∙ ap (λ z. take n old ++ (replicate (place - n) empty ++ z ∷ [])) is ∙ ap (λ xs. take n old ++ xs) (replicate_more (place - n) empty ∙ ap (λ k. replicate k empty) one);
      rest = drop-set-lt (place + 1) new place y (omega arith) ∙ sym (drop-drop 1 place new) ∙ ap (drop 1) g.rest ∙ drop-drop 1 place old;
      long = length-set new place y ∙ long;
    }

-- once all are empty
pub emptied_held : {X : Type 0} (empty : X) (old new : List X) (n place : ℕ) → n ≤ place → place ≤ length old → Emptied empty old new n place → take n new ≡ take n (take place old)
emptied_held empty old new n place below room g =
    let cut = length-take n old in
    let same : length (take n old) ≡ n = omega arith in
    sym (take-take n place new below) ∙ ap (take n) g.front ∙ take_at (take n old) (replicate (place - n) empty) n same ∙ sym (take-take n place old below)

pub emptied_past : {X : Type 0} (empty : X) (old new : List X) (n place : ℕ) → n ≤ place → place ≤ length old → Emptied empty old new n place → drop n new ≡ replicate (place - n) empty ++ drop place old
emptied_past empty old new n place below room g =
    let cut = length-take n old in
    let same : length (take n old) ≡ n = omega arith in
    let whole = sym (take-append-drop place new) ∙ ap (λ xs. xs ++ drop place new) g.front ∙ ap (λ xs. (take n old ++ replicate (place - n) empty) ++ xs) g.rest ∙ append_assoc (take n old) (replicate (place - n) empty) (drop place old) in
    ap (drop n) whole ∙ drop_at (take n old) (replicate (place - n) empty ++ drop place old) n same
