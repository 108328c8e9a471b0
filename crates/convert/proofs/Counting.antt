-- Counting, event by event.
use Rattle.std.proofs.Common.{◌≡◌, ℕ, ◌+◌, ◌-◌, ◌<◌, ◌≤◌, true, cond, eqb, ◌≢◌, ◌⊎◌, List, [], ◌∷◌, ◌++◌, length, get_or, take, drop, set, Some, None, Ok, Err, Option, sym, refl, ap, ◌∙◌, subst, inl, inr, arith}
use Rattle.std.proofs.lemmas.List.{length-map, get_or-set_same, get_or-set_other, length-take-le}
use Rattle.std.proofs.lemmas.Bool.{eq-eqb, ne_eqb, cases_eq}
use Rattle.model.specs.declared.Fault.{Fault}
use Rattle.model.specs.declared.EventKind.{EventKind}
use Rattle.model.specs.declared.EventKind.TheVariants.{StreamStart}
use Rattle.model.specs.Events.{Ev, kind_number, allowed}
use Rattle.model.specs.Reading.{Marked, bare}
use Rattle.yaml.specs.Flow.{Flow, Came, Over}
use Rattle.yaml.specs.View.{size_of}
use Rattle.convert.specs.Handing.{total, first_ones, AllHanded}
use Rattle.convert.specs.declared.tally.Survey.{Survey}
use Rattle.convert.specs.declared.tally.Unsurveyed.{Unsurveyed}
use Rattle.convert.specs.declared.tally.Unsurveyed.TheVariants.{Faulty, TooLarge}
use Rattle.convert.specs.Surveys.{of_kind, bears_anchor, anchored, Tallied, Surveyed, Untouched, Added, Adds}
use Rattle.convert.proofs.Going.{total_push, one_on, ones_more, all_told}

-- these events were counted, and these are left
pub record CountedSoFar (weight : Ev → ℕ) (f₀ : Flow) (s : Survey) (f : Flow) : Type 0 where
  pub tallied : Tallied weight (first_ones s.events f₀) s.events s.kinds s.anchors s.bytes
  pub left : drop s.events f₀.coming.events ≡ f.coming.events
  pub lasting : f.coming.after ≡ f₀.coming.after
  pub within : s.events ≤ length f₀.coming.events

-- what an allowed event's size is
pub given_size : (weight : Ev → ℕ) (e : Ev) → allowed e ≡ true → size_of weight e ≡ Some (weight e)
given_size weight e a = ap (λ b. cond b (Some (weight e)) None) a

number_range : (k : EventKind) → (1 ≤ kind_number k) × (kind_number k ≤ 10)
number_range k = elim k as (λ v. (1 ≤ kind_number v) × (kind_number v ≤ 10)) [ StreamStart ↦ (omega arith, omega arith) | _ ↦ (omega arith, omega arith) ]

kind_push : (k : EventKind) (es : List Ev) (e : Ev) → of_kind k (es ++ e ∷ []) ≡ of_kind k es + cond (eqb (kind_number e.kind) (kind_number k)) 1 0
kind_push k [] e = omega arith
kind_push k (x ∷ es) e = let more = kind_push k es e in omega arith

anchored_push : (es : List Ev) (e : Ev) → anchored (es ++ e ∷ []) ≡ anchored es + bears_anchor e.kind (length e.anchor)
anchored_push [] e = omega arith
anchored_push (x ∷ es) e = let more = anchored_push es e in omega arith

pub counted_none : (weight : Ev → ℕ) (f : Flow) (s : Survey) → Untouched s → CountedSoFar weight f s f
counted_none weight f s none =
    let zero : s.events ≡ 0 = none.events in
    record {
      tallied = record {
        all = zero ∙ ap (λ n. length (first_ones n f)) (sym zero);
        kind = λ k. none.kinds k ∙ ap (λ n. of_kind k (first_ones n f)) (sym zero);
        anchor = none.anchors ∙ ap (λ n. anchored (first_ones n f)) (sym zero);
        byte = none.bytes ∙ ap (λ n. total weight (first_ones n f)) (sym zero);
      };
      left = ap (λ n. drop n f.coming.events) zero;
      lasting = refl;
      within = omega arith;
    }

-- counting one of a kind counts for that kind alone
kind_counted : (kinds : List ℕ) (j k : EventKind) → length kinds ≡ 10
    → get_or (set kinds (kind_number j - 1) (get_or kinds (kind_number j - 1) 0 + 1)) (kind_number k - 1) 0 ≡ get_or kinds (kind_number k - 1) 0 + cond (eqb (kind_number j) (kind_number k)) 1 0
kind_counted kinds j k ten = by (cases_eq (kind_number j) (kind_number k))
  where
    at_j : ℕ
    at_j = kind_number j - 1

    by : (kind_number j ≡ kind_number k) ⊎ (kind_number j ≡ kind_number k → ⊥)
        → get_or (set kinds (kind_number j - 1) (get_or kinds (kind_number j - 1) 0 + 1)) (kind_number k - 1) 0 ≡ get_or kinds (kind_number k - 1) 0 + cond (eqb (kind_number j) (kind_number k)) 1 0
    by (inl same) =
        let rj = number_range j in
        let inside : kind_number j - 1 < length kinds = omega arith in
        ap (λ n. get_or (set kinds (kind_number j - 1) (get_or kinds (kind_number j - 1) 0 + 1)) (n - 1) 0) (sym same)
        ∙ get_or-set_same kinds (kind_number j - 1) (get_or kinds (kind_number j - 1) 0 + 1) 0 inside
        ∙ ap (λ n. get_or kinds (n - 1) 0 + 1) same
        ∙ ap (λ b. get_or kinds (kind_number k - 1) 0 + cond b 1 0) (sym (eq-eqb (kind_number j) (kind_number k) same))
    by (inr other) =
        let rj = number_range j in
        let rk = number_range k in
        let apart : kind_number k - 1 ≢ kind_number j - 1 = λ e. other (omega arith) in
        let none : get_or kinds (kind_number k - 1) 0 ≡ get_or kinds (kind_number k - 1) 0 + 0 = omega arith in
        get_or-set_other kinds (kind_number j - 1) (kind_number k - 1) (get_or kinds (kind_number j - 1) 0 + 1) 0 apart
        ∙ none ∙ ap (λ b. get_or kinds (kind_number k - 1) 0 + cond b 1 0) (sym (ne_eqb (kind_number j) (kind_number k) other))

length_ones : (n : ℕ) (f : Flow) → n ≤ length f.coming.events → length (first_ones n f) ≡ n
length_ones n f l = length-map (take n f.coming.events) bare ∙ length-take-le n f.coming.events l

module _ (weight : Ev → ℕ) (f₀ : Flow) (s : Survey) (f : Flow) (so : CountedSoFar weight f₀ s f) where
  -- one more
  pub counted_more : (m : Marked) (f' : Flow) (t : Survey) → length s.kinds ≡ 10 → Came f m f' → Added s m.event (weight m.event) t → CountedSoFar weight f₀ t f'
  counted_more m f' t ten came added =
      let next : drop s.events f₀.coming.events ≡ m ∷ f'.coming.events = so.left ∙ came.first in
      let on = one_on s.events f₀.coming.events m f'.coming.events next in
      let ones : first_ones t.events f₀ ≡ first_ones s.events f₀ ++ m.event ∷ [] = ap (λ n. first_ones n f₀) added.events ∙ ones_more s.events f₀ m f'.coming.events next in
      let more = added.events in
      let inside = on.inside in
      record {
        tallied = record {
          all = sym (length_ones t.events f₀ (omega arith));
          kind = λ k. ap (λ l. get_or l (kind_number k - 1) 0) added.kinds ∙ kind_counted s.kinds m.event.kind k ten
              ∙ ap (λ x. x + cond (eqb (kind_number m.event.kind) (kind_number k)) 1 0) (so.tallied.kind k) ∙ sym (kind_push k (first_ones s.events f₀) m.event) ∙ sym (ap (of_kind k) ones);
          anchor = added.anchors ∙ ap (λ x. x + bears_anchor m.event.kind (length m.event.anchor)) so.tallied.anchor ∙ sym (anchored_push (first_ones s.events f₀) m.event) ∙ sym (ap anchored ones);
          byte = added.bytes ∙ ap (λ x. x + weight m.event) so.tallied.byte ∙ sym (total_push weight (first_ones s.events f₀) m.event) ∙ sym (ap (total weight) ones);
        };
        left = ap (λ n. drop n f₀.coming.events) added.events ∙ on.dropped;
        lasting = came.lasting ∙ so.lasting;
        within = omega arith;
      }

  pub counted_all : (end : Option Fault) (f' : Flow) → Over f end f' → AllHanded f₀ s.events f' × (f₀.coming.after ≡ end)
  counted_all end f' over = all_told f₀ s.events f so.left so.lasting so.within end f' over

  pub survey_ended : (f' : Flow) → Over f None f' → Surveyed weight f₀ (record s { stop = Ok tt }) f'
  survey_ended f' over = record { tallied = so.tallied; end = counted_all None f' over }

  pub survey_faulty : (g : Fault) (f' : Flow) → Over f (Some g) f' → Surveyed weight f₀ (record s { stop = Err (Faulty g) }) f'
  survey_faulty g f' over = record { tallied = so.tallied; end = counted_all (Some g) f' over }

  -- the next one makes the sum too large
  pub survey_short : (m : Marked) (f' : Flow) (e : Unsurveyed) (t : Survey) → Came f m f' → Adds s m.event (weight m.event) (Err e) t → Surveyed weight f₀ (record t { stop = Err e }) f'
  survey_short m f' (Faulty g) t came a = absurd a
  survey_short m f' TooLarge t came a =
      subst (λ (x : Survey). Surveyed weight f₀ (record x { stop = Err TooLarge }) f') (sym a.same)
      (record { tallied = so.tallied; end = record { next_one = m; rest = f'.coming.events; is_next = so.left ∙ came.first; large = a.large } })
