-- Past what a stack holds there stay only empty entries.
use Rattle.std.proofs.Common.{◌≡◌, ℕ, suc, ◌+◌, ◌-◌, ◌≤◌, min, List, ◌∷◌, ◌++◌, length, drop, replicate, sym, ap, ◌∙◌, arith, length-set}
use Rattle.std.proofs.lemmas.List.{length-take, length_push, length-append, drop-replicate, take-append-drop, replicate-append-replicate}
use Rattle.tables.specs.declared.stack.Stack.{Stack}
use Rattle.tables.specs.Stacks.{contents, room_of, Clean, Topped, Untopped, Changed, Wiped, Grown, Shortened}

pub held_within : {X : Type 0} (s : Stack X) → length (contents s) ≤ room_of s
held_within s = omega (arith, length-take s.count s.items.now)

pub clean_topped : {X : Type 0} (empty : X) (before after : Stack X) (entry : X) → Topped before entry after → Clean empty before → Clean empty after
clean_topped empty before after entry t c =
    let n = length (contents before) in
    let more : length (contents after) ≡ n + 1 = ap length t.holds ∙ length_push (contents before) entry in
    let room = t.over.room in
    let left : room_of before - n - 1 ≡ room_of after - length (contents after) = omega arith in
    t.past ∙ ap (drop 1) c ∙ drop-replicate 1 (room_of before - n) empty ∙ ap (λ k. replicate k empty) left

pub clean_untopped : {X : Type 0} (empty : X) (before after : Stack X) (entry : X) → Untopped empty before after entry → Clean empty before → Clean empty after
clean_untopped empty before after entry t c =
    let n = length (contents before) in
    let fewer : n ≡ length (contents after) + 1 = ap length t.held ∙ length_push (contents after) entry in
    let room = t.over.room in
    let within = held_within before in
    let left : suc (room_of before - n) ≡ room_of after - length (contents after) = omega arith in
    t.past ∙ ap (λ xs. empty ∷ xs) c ∙ ap (λ k. replicate k empty) left

pub clean_changed : {X : Type 0} (empty : X) (before after : Stack X) (i : ℕ) (entry : X) → Changed before i entry after → Clean empty before → Clean empty after
clean_changed empty before after i entry t c =
    let same : length (contents after) ≡ length (contents before) = ap length t.holds ∙ length-set (contents before) i entry in
    let room = t.over.room in
    let left : room_of before - length (contents before) ≡ room_of after - length (contents after) = omega arith in
    t.past ∙ c ∙ ap (λ k. replicate k empty) left

pub clean_wiped : {X : Type 0} (empty : X) (before after : Stack X) → Wiped empty before after → Clean empty after
clean_wiped empty before after w =
    let none : length (contents after) ≡ 0 = ap length w.holds in
    let room = w.over.room in
    let left : room_of before ≡ room_of after - length (contents after) = omega arith in
    w.past ∙ ap (λ k. replicate k empty) left

-- the whole table: what is held, and empty entries
pub clean_table : {X : Type 0} (empty : X) (s : Stack X) → Clean empty s → s.items.now ≡ contents s ++ replicate (room_of s - length (contents s)) empty
clean_table empty s c = sym (take-append-drop s.count s.items.now) ∙ ap (λ xs. contents s ++ xs) c

pub clean_grown : {X : Type 0} (empty : X) (before after : Stack X) (entries : List X) → Grown before entries after → Clean empty before → Clean empty after
clean_grown empty before after entries t c =
    let n = length (contents before) in
    let more : length (contents after) ≡ n + length entries = ap length t.holds ∙ length-append (contents before) entries in
    let room = t.over.room in
    let left : room_of before - n - length entries ≡ room_of after - length (contents after) = omega arith in
    t.past ∙ ap (drop (length entries)) c ∙ drop-replicate (length entries) (room_of before - n) empty ∙ ap (λ k. replicate k empty) left

pub clean_shortened : {X : Type 0} (empty : X) (before after : Stack X) (n : ℕ) → Shortened empty before n after → Clean empty before → Clean empty after
clean_shortened empty before after n t c =
    let h = length (contents before) in
    let fewer : length (contents after) ≡ min n h = ap length t.holds ∙ length-take n (contents before) in
    let room = t.over.room in
    let within = held_within before in
    let left : (h - n) + (room_of before - h) ≡ room_of after - length (contents after) = omega arith in
    t.past ∙ ap (λ xs. replicate (h - n) empty ++ xs) c ∙ replicate-append-replicate (h - n) (room_of before - h) empty ∙ ap (λ k. replicate k empty) left
