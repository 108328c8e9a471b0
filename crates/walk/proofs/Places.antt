-- Entries by a node's number.
use Rattle.std.proofs.Common.{◌≡◌, ℕ, zero, suc, ◌-◌, ◌≤◌, List, length, get_or, set, refl, ap, arith, length-set}
use Rattle.std.proofs.lemmas.List.{get_or-set_same, get_or-set_other}
use Rattle.walk.specs.declared.entry.Counted.{Counted}
use Rattle.walk.specs.Entries.{empty_counted, entry_at, replaced}

pub entry_is : (t : List Counted) (v : ℕ) → 1 ≤ v → get_or t (v - 1) empty_counted ≡ entry_at t v
entry_is t zero some = absurd (omega arith)
entry_is t (suc k) some = let e : suc k - 1 ≡ k = omega arith in ap (λ i. get_or t i empty_counted) e

pub replaced_is : (t : List Counted) (v : ℕ) (c : Counted) → 1 ≤ v → set t (v - 1) c ≡ replaced t v c
replaced_is t zero c some = absurd (omega arith)
replaced_is t (suc k) c some = let e : suc k - 1 ≡ k = omega arith in ap (λ i. set t i c) e

pub entry_same : (t : List Counted) (v : ℕ) (c : Counted) → 1 ≤ v → v ≤ length t → entry_at (replaced t v c) v ≡ c
entry_same t zero c some inside = absurd (omega arith)
entry_same t (suc k) c some inside = get_or-set_same t k c empty_counted (omega arith)

pub entry_other : (t : List Counted) (v w : ℕ) (c : Counted) → (w ≡ v → ⊥) → entry_at (replaced t v c) w ≡ entry_at t w
entry_other t zero w c apart = refl
entry_other t (suc k) zero c apart = refl
entry_other t (suc k) (suc i) c apart = get_or-set_other t k i c empty_counted (λ e. apart (ap suc e))

pub length_replaced : (t : List Counted) (v : ℕ) (c : Counted) → length (replaced t v c) ≡ length t
length_replaced t zero c = refl
length_replaced t (suc k) c = length-set t k c
