-- What the pen that stores the bytes of a line means.
use Rattle.std.specs.Prelude.{◌≡◌, ℕ, ◌+◌, ◌-◌, ◌≤◌, List, [], ◌++◌, length, take, refl}
use Rattle.std.proofs.Common.{arith, sym, ap, ◌∙◌}
use Rattle.std.proofs.lemmas.List.{append-nil, append_assoc, length-append}
use Rattle.yaml.specs.Puts.{puts}
use Rattle.lines.specs.declared.writer.store.Store.{Store}
use Rattle.lines.specs.Writes.{puts_append}

-- bytes were put into the slice at the pen's place, which moved behind them, and nothing else altered
pub record Stored (before : Store) (bytes : List ℕ) (after : Store) : Type 0 where
  pub slice : after.out.now ≡ puts before.out.now before.at bytes
  pub place : after.at ≡ before.at + length bytes
  pub front : take after.at after.out.now ≡ take before.at before.out.now ++ bytes
  pub length_same : length after.out.now ≡ length before.out.now
  pub same : after.out.ghost_name ≡ before.out.ghost_name

abbrev pub unwritten : Store → ℕ
unwritten w = length w.out.now - w.at

pub store_nothing : (s : Store) → Stored s [] s
store_nothing s = record { slice = refl; place = omega arith; front = sym (append-nil (take s.at s.out.now)); length_same = refl; same = refl }

pub store_onward : (s t u : Store) (xs ys : List ℕ) → Stored s xs t → Stored t ys u → Stored s (xs ++ ys) u
store_onward s t u xs ys p q = record {
  slice = q.slice ∙ (ap (λ o. puts o t.at ys) p.slice ∙ puts_append s.out.now s.at t.at xs ys p.place);
  place = omega (arith, p.place, q.place, length-append xs ys);
  front = q.front ∙ (ap (λ l. l ++ ys) p.front ∙ append_assoc (take s.at s.out.now) xs ys);
  length_same = q.length_same ∙ p.length_same;
  same = q.same ∙ p.same;
}

pub store_falls : (s t : Store) (xs : List ℕ) → Stored s xs t → unwritten s ≤ unwritten t + length xs
store_falls s t xs p = omega (arith, p.place, p.length_same)
