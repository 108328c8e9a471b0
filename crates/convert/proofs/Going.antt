-- Handing on, event by event.
use Rattle.std.proofs.Common.{◌≡◌, ℕ, suc, ◌+◌, ◌-◌, ◌<◌, ◌≤◌, true, List, [], ◌∷◌, ◌++◌, map, length, get_or, take, drop, Some, None, Ok, Err, Option, sym, refl, ap, ◌∙◌, subst, arith}
use Rattle.std.proofs.lemmas.List.{append_assoc, append-nil, map-append, length-drop, drop_more, take_more}
use Rattle.std.proofs.lemmas.Bool.{both_ways}
use Rattle.model.specs.declared.Fault.{Fault}
use Rattle.model.specs.Events.{Ev, allowed}
use Rattle.model.specs.Reading.{Marked, bare}
use Rattle.yaml.specs.declared.event.Head.{Head}
use Rattle.yaml.specs.declared.sink.Refusal.{Refusal}
use Rattle.yaml.specs.declared.sink.Refusal.TheVariants.{NotAllowed, NoSpace}
use Rattle.yaml.specs.Shapes.{head_of}
use Rattle.convert.specs.declared.convert.Unconverted.TheVariants.{Faulty, Refused}
use Rattle.yaml.specs.Flow.{Flow, Came, Over, Gave}
use Rattle.yaml.specs.View.{View, Weighs, Accepted, Full, Took}
use Rattle.convert.specs.declared.whole.Whole.{Whole}
use Rattle.convert.specs.Wholes.{marked_of, GaveWhole}
use Rattle.convert.specs.Handing.{total, first_ones, HandedOn, AllHanded, Stopped, Conversion}

-- n events were handed on, and these are left
pub record SoFar (weight : Ev → ℕ) (f₀ : Flow) (v₀ : View) (n : ℕ) (f : Flow) (v : View) : Type 0 where
  pub handed : HandedOn weight f₀ v₀ n v
  pub left : drop n f₀.coming.events ≡ f.coming.events
  pub lasting : f.coming.after ≡ f₀.coming.after
  pub within : n ≤ length f₀.coming.events
  pub few : n + v.room ≤ v₀.room

pub total_push : (weight : Ev → ℕ) (es : List Ev) (e : Ev) → total weight (es ++ e ∷ []) ≡ total weight es + weight e
total_push weight [] e = omega arith
total_push weight (x ∷ es) e = let more = total_push weight es e in omega arith

pub record OneOn (n : ℕ) (es : List Marked) (m : Marked) (rest : List Marked) : Type 0 where
  pub dropped : drop (n + 1) es ≡ rest
  pub taken : take (n + 1) es ≡ take n es ++ m ∷ []
  pub inside : n < length es

pub one_on : (n : ℕ) (es : List Marked) (m : Marked) (rest : List Marked) → drop n es ≡ m ∷ rest → OneOn n es m rest
one_on n es m rest h =
    let long : length es - n ≡ suc (length rest) = sym (length-drop n es) ∙ ap length h in
    let inside : n < length es = omega arith in
    let first = drop_more es n m inside in
    let same : get_or es n m ≡ m = cc in
    record { dropped = cc; taken = take_more es n m inside ∙ ap (λ x. take n es ++ x ∷ []) same; inside = inside }

-- one event more of those to come
pub ones_more : (n : ℕ) (f : Flow) (m : Marked) (rest : List Marked) → drop n f.coming.events ≡ m ∷ rest → first_ones (n + 1) f ≡ first_ones n f ++ m.event ∷ []
ones_more n f m rest h = ap (map bare) (one_on n f.coming.events m rest h).taken ∙ map-append bare (take n f.coming.events) (m ∷ [])

pub so_far_none : (weight : Ev → ℕ) (f : Flow) (v : View) → SoFar weight f v 0 f v
so_far_none weight f v = record {
  handed = record { taken = sym (append-nil v.taken); room = omega arith };
  left = refl;
  lasting = refl;
  within = omega arith;
  few = omega arith;
}

-- where nothing is left after n events, these were all
pub all_told : (f₀ : Flow) (n : ℕ) (f : Flow) → drop n f₀.coming.events ≡ f.coming.events → f.coming.after ≡ f₀.coming.after → n ≤ length f₀.coming.events
    → (end : Option Fault) (f' : Flow) → Over f end f' → AllHanded f₀ n f' × (f₀.coming.after ≡ end)
all_told f₀ n f left lasting within end f' over =
    let none : drop n f₀.coming.events ≡ [] = left ∙ over.none_left in
    let long : length f₀.coming.events - n ≡ 0 = sym (length-drop n f₀.coming.events) ∙ ap length none in (
      record {
        all = omega arith;
        none_left = ap (λ x. x.coming.events) over.same ∙ over.none_left;
        lasting = ap (λ x. x.coming.after) over.same ∙ lasting;
      },
      sym lasting ∙ over.told,
    )

module _ (weight : Ev → ℕ) (f₀ : Flow) (v₀ : View) (n : ℕ) (f : Flow) (v : View) (so : SoFar weight f₀ v₀ n f v) where
  -- one more
  pub so_far_more : (weighs : Weighs weight) (m : Marked) (f' : Flow) (v' : View) → Came f m f' → Accepted weight v m.event v' → SoFar weight f₀ v₀ (n + 1) f' v'
  so_far_more weighs m f' v' came took =
      let on = one_on n f₀.coming.events m f'.coming.events (so.left ∙ came.first) in
      let ones : first_ones (n + 1) f₀ ≡ first_ones n f₀ ++ m.event ∷ [] = ones_more n f₀ m f'.coming.events (so.left ∙ came.first) in
      let sum : total weight (first_ones (n + 1) f₀) ≡ total weight (first_ones n f₀) + weight m.event = ap (total weight) ones ∙ total_push weight (first_ones n f₀) m.event in
      let heavy = (weighs m.event took.was_allowed).0 in
      let fallen = took.fallen in
      let room = so.handed.room in
      record {
        handed = record {
          taken = took.appended ∙ ap (λ l. l ++ m.event ∷ []) so.handed.taken ∙ append_assoc v₀.taken (first_ones n f₀) (m.event ∷ []) ∙ ap (λ l. v₀.taken ++ l) (sym ones);
          room = omega (arith, so.few);
        };
        left = on.dropped;
        lasting = came.lasting ∙ so.lasting;
        within = omega (arith, on.inside);
        few = omega (arith, so.few);
      }

  -- the source was at its end
  pub all_handed : (end : Option Fault) (f' : Flow) → Over f end f' → AllHanded f₀ n f' × (f₀.coming.after ≡ end)
  all_handed end f' over = all_told f₀ n f so.left so.lasting so.within end f' over

  -- the next one did not fit
  pub stopped : (m : Marked) (size space : ℕ) (f' : Flow) (v' : View) → Came f m f' → Full weight v m.event size space v' → HandedOn weight f₀ v₀ n v' × Stopped weight f₀ n v' size space f'
  stopped m size space f' v' came full =
      let v-same = full.same in
      let room : v'.room ≡ v.room = ap (λ x. x.room) v-same in
      let told = full.size_told in
      let space_told = full.space_told in
      let large = full.too_large in (
        record { taken = ap (λ x. x.taken) v-same ∙ so.handed.taken; room = omega (arith, so.handed.room) },
        record {
          refused_one = m;
          next_one = so.left ∙ came.first;
          lasting = came.lasting ∙ so.lasting;
          size_told = told;
          space_told = omega arith;
          too_large = omega arith;
        },
      )

  -- the sink refused the next one, which can only be for want of space
  pub refused : (m : Marked) (f' : Flow) (v' : View) (r : Refusal) → Came f m f' → allowed m.event ≡ true → Took weight v m.event (Err r) v'
      → Conversion weight f₀ v₀ (record { events = n; end = Err (Refused r) }) f' v'
  refused m f' v' NotAllowed came a unfit = absurd (both_ways (allowed m.event) unfit.not_allowed a)
  refused m f' v' (NoSpace size space) came a full = let s = stopped m size space f' v' came full in record { handed = s.0; end = s.1 }

  pub at_end : (f' : Flow) → Over f None f' → Conversion weight f₀ v₀ (record { events = n; end = Ok tt }) f' v
  at_end f' over = record { handed = so.handed; end = all_handed None f' over }

  pub at_fault : (fault : Fault) (f' : Flow) → Over f (Some fault) f' → Conversion weight f₀ v₀ (record { events = n; end = Err (Faulty fault) }) f' v
  at_fault fault f' over = record { handed = so.handed; end = all_handed (Some fault) f' over }

-- what a source gave, by what is in it
pub gave_one : (f : Flow) (o : Option Head) (h : Head) (f' : Flow) → Gave f (Ok o) f' → o ≡ Some h → (m : Marked) × Came f m f' × (h ≡ head_of m)
gave_one f o h f' gave is = subst (λ x. Gave f (Ok x) f') is gave

pub whole_came : (f : Flow) (o : Option Whole) (w : Whole) (f' : Flow) → GaveWhole f (Ok o) f' → o ≡ Some w → Came f (marked_of w) f'
whole_came f o w f' gave is = subst (λ x. GaveWhole f (Ok x) f') is gave

pub whole_over : (f : Flow) (o : Option Whole) (f' : Flow) → GaveWhole f (Ok o) f' → o ≡ None → Over f None f'
whole_over f o f' gave is = subst (λ x. GaveWhole f (Ok x) f') is gave
