-- What a survey tells of a source's events, each of which weighs one byte at least: no count is larger than the events, and these are no more than the bytes.
use Rattle.std.proofs.Common.{◌≡◌, ℕ, zero, suc, ◌-◌, ◌≤◌, Bool, true, false, cond, eqb, List, [], ◌∷◌, map, length, get_or, take, arith}
use Rattle.std.proofs.lemmas.Bool.{and_parts}
use Rattle.model.specs.declared.EventKind.{EventKind}
use Rattle.model.specs.declared.EventKind.TheVariants.{Alias}
use Rattle.model.specs.Events.{Ev, kind_number, allowed, all_allowed}
use Rattle.model.specs.Reading.{Marked, bare}
use Rattle.yaml.specs.Flow.{Flow, Sound}
use Rattle.yaml.specs.View.{Weighs}
use Rattle.convert.specs.Handing.{total, first_ones}
use Rattle.convert.specs.declared.tally.Survey.{Survey}
use Rattle.convert.specs.Surveys.{of_kind, bears_anchor, anchored, Surveyed}

cond_few : (b : Bool) → cond b 1 0 ≤ 1
cond_few true = omega arith
cond_few false = omega arith

pub kind_few : (k : EventKind) (es : List Ev) → of_kind k es ≤ length es
kind_few k [] = omega arith
kind_few k (e ∷ es) = omega (arith, kind_few k es, cond_few (eqb (kind_number e.kind) (kind_number k)))

given_few : (b : Bool) → cond b 0 1 ≤ 1
given_few true = omega arith
given_few false = omega arith

pub bears_few : (k : EventKind) (n : ℕ) → bears_anchor k n ≤ 1
bears_few k n = elim k as (λ v. bears_anchor v n ≤ 1) [ Alias ↦ omega arith | _ ↦ given_few (eqb n 0) ]

pub anchored_few : (es : List Ev) → anchored es ≤ length es
anchored_few [] = omega arith
anchored_few (e ∷ es) = omega (arith, anchored_few es, bears_few e.kind (length e.anchor))

-- the first of some allowed events are no more than the bytes that they weigh
ones_few : (weight : Ev → ℕ) → Weighs weight → (n : ℕ) (ms : List Marked) → all_allowed (map bare ms) ≡ true → length (map bare (take n ms)) ≤ total weight (map bare (take n ms))
ones_few weight weighs zero ms a = omega arith
ones_few weight weighs (suc n) [] a = omega arith
ones_few weight weighs (suc n) (m ∷ ms) a =
    let parts = and_parts (allowed m.event) (all_allowed (map bare ms)) a in
    omega (arith, (weighs m.event parts.0).0, ones_few weight weighs n ms parts.1)

pub record Few (s : Survey) : Type 0 where
  pub heavy : s.events ≤ s.bytes
  pub kinds : (k : EventKind) → get_or s.kinds (kind_number k - 1) 0 ≤ s.events
  pub anchors : s.anchors ≤ s.events

pub surveyed_few : (weight : Ev → ℕ) → Weighs weight → (f₀ : Flow) → Sound f₀ → (s : Survey) (f : Flow) → Surveyed weight f₀ s f → Few s
surveyed_few weight weighs f₀ sound s f told =
    let all = told.tallied.all in
    record {
      heavy = omega (arith, told.tallied.byte, ones_few weight weighs s.events f₀.coming.events sound);
      kinds = λ k. omega (arith, told.tallied.kind k, kind_few k (first_ones s.events f₀));
      anchors = omega (arith, told.tallied.anchor, anchored_few (first_ones s.events f₀));
    }
