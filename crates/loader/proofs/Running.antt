-- The loop over a document's events: at each turn the run from here is the run from the start.
use Rattle.std.proofs.Common.{◌≡◌, true, false, List, [], Some, None, Ok, Err, Option, Result, sym, refl, ap, ◌∙◌, subst}
use Rattle.std.proofs.lemmas.Bool.{cond-true, cond-false}
use Rattle.model.specs.declared.Fault.{Fault}
use Rattle.model.specs.declared.EventKind.{EventKind}
use Rattle.model.specs.declared.EventKind.TheVariants.{DocumentStart, DocumentEnd}
use denote.Enum.Bare.{sameb}
use Rattle.model.specs.contracts.EventKind.{the_type}
use Rattle.model.specs.Events.{Ev, allowed}
use Rattle.model.specs.Reading.{Marked}
use Rattle.yaml.specs.declared.event.Head.{Head}
use Rattle.yaml.specs.Flow.{Flow, Came, Over, Gave}
use Rattle.composer.specs.declared.stacks.Tables.{Tables}
use Rattle.composer.specs.declared.refusal.Refusal.{Refusal}
use Rattle.composer.specs.State.{St, Spaces, spaces_for, blank}
use Rattle.composer.specs.Steps.{taking}
use Rattle.composer.specs.Holding.{state_of, base_of, spaces_of, Base, AllClean, Done, Denied}
use Rattle.convert.specs.declared.whole.Whole.{Whole}
use Rattle.convert.specs.Wholes.{marked_of, GaveWhole}
use Rattle.loader.specs.declared.answer.Loaded.{Loaded}
use Rattle.loader.specs.declared.answer.Phase.TheVariants.{Between}
use Rattle.loader.specs.Loading.{kept, flowing, missing, refused, over, complete, counted, stepped, is_document_end, running, between, begun}
use Rattle.loader.specs.Loads.{HeadCame, NoneCame, given, start_marked, running_on, between_on, WithRefusal, WithDocument}
use Rattle.loader.proofs.Allowed.{start_told}

-- what is left of a source, by its parts
flow_parts : (f : Flow) (latest : Option Ev) (ms : List Marked) (after : Option Fault) → latest ≡ f.latest → ms ≡ f.coming.events → after ≡ f.coming.after → flowing latest ms after ≡ f
flow_parts f latest ms after p q r = λ i. flowing (p i) (q i) (r i)

-- after an event what is left is what the definition says
pub flow_came : (f f' : Flow) (m : Marked) → Came f m f' → flowing (Some m.event) f'.coming.events f.coming.after ≡ f'
flow_came f f' m c = flow_parts f' (Some m.event) f'.coming.events f.coming.after (sym c.latest) refl (sym c.lasting)

-- where no event is left, nothing is taken
pub over_none : (f f' : Flow) (e : Refusal) → NoneCame f e f' → over f.latest f.coming.after ≡ refused e f'
over_none f f' e n =
    ap (refused (missing f.coming.after)) (flow_parts f f.latest [] f.coming.after refl (sym n.none_left) refl)
    ∙ ap (λ x. refused x f) (sym n.why) ∙ ap (refused e) (sym n.same)

module _ (sp : Spaces) (start : Marked) (f f' : Flow) where
  pub running_none : (e : Refusal) (s : St) → NoneCame f e f' → running_on sp start f s ≡ refused e f'
  unfolding running
  running_none e s n = ap (λ ms. running sp start f.coming.after f.latest s ms) n.none_left ∙ over_none f f' e n

  pub running_came : (m : Marked) (s : St) → Came f m f' → running_on sp start f s ≡ stepped (taking sp m s) start m f' (λ t. running_on sp start f' t)
  unfolding running
  running_came m s c =
      ap (λ ms. running sp start f.coming.after f.latest s ms) c.first
      ∙ ap (λ g. stepped (taking sp m s) start m g (λ t. running sp start f.coming.after (Some m.event) t f'.coming.events)) (flow_came f f' m c)
      ∙ (λ i. stepped (taking sp m s) start m f' (λ t. running sp start (sym c.lasting i) (sym c.latest i) t f'.coming.events))

-- what a source gave, by what came of it
pub head_given : (f : Flow) (r : Result (Option Head) Fault) (h : Head) (f' : Flow) → Gave f r f' → Ok h ≡ given r → HeadCame f h f'
head_given f (Ok (Some x)) h f' gave is = let same : h ≡ x = cc in record { one = gave.0; came = gave.1; told = same ∙ gave.2 }
head_given f (Ok None) h f' gave is = cc
head_given f (Err e) h f' gave is = cc

pub whole_given : (f : Flow) (r : Result (Option Whole) Fault) (w : Whole) (f' : Flow) → GaveWhole f r f' → Ok w ≡ given r → Came f (marked_of w) f'
whole_given f (Ok (Some x)) w f' gave is = let same : x ≡ w = cc in subst (λ v. Came f (marked_of v) f') same gave
whole_given f (Ok None) w f' gave is = cc
whole_given f (Err e) w f' gave is = cc

over_given : (f : Flow) (end : Option Fault) (e : Refusal) (f' : Flow) → Over f end f' → e ≡ missing end → NoneCame f e f'
over_given f end e f' over why = record { none_left = over.none_left; why = why ∙ ap missing (sym over.told); same = over.same }

pub no_head_given : (f : Flow) (r : Result (Option Head) Fault) (e : Refusal) (f' : Flow) → Gave f r f' → Err e ≡ given r → NoneCame f e f'
no_head_given f (Ok (Some x)) e f' gave is = cc
no_head_given f (Ok None) e f' gave is = over_given f None e f' gave cc
no_head_given f (Err d) e f' gave is = over_given f (Some d) e f' gave cc

pub no_whole_given : (f : Flow) (r : Result (Option Whole) Fault) (e : Refusal) (f' : Flow) → GaveWhole f r f' → Err e ≡ given r → NoneCame f e f'
no_whole_given f (Ok (Some x)) e f' gave is = cc
no_whole_given f (Ok None) e f' gave is = over_given f None e f' gave cc
no_whole_given f (Err d) e f' gave is = over_given f (Some d) e f' gave cc

-- at each turn
pub record Going (start : Marked) (f₀ : Flow) (t₀ : Tables) (f : Flow) (t : Tables) : Type 0 where
  pub same : running_on (spaces_of t₀) start f (state_of t) ≡ running_on (spaces_of t₀) start f₀ (state_of t₀)
  pub base : base_of t ≡ base_of t₀
  pub clean : AllClean t₀ → AllClean t

module _ (start : Marked) (f₀ : Flow) (t₀ : Tables) (f : Flow) (t : Tables) (going : Going start f₀ t₀ f t) (f' : Flow) where
  pub going_none : (e : Refusal) → NoneCame f e f' → WithRefusal (running_on (spaces_of t₀) start f₀ (state_of t₀)) t₀ e t f'
  going_none e n = record { told = sym going.same ∙ running_none (spaces_of t₀) start f f' e (state_of t) n; base = going.base }

  module _ (m : Marked) (came : Came f m f') where
    onward : running_on (spaces_of t₀) start f₀ (state_of t₀) ≡ stepped (taking (spaces_of t) m (state_of t)) start m f' (λ s. running_on (spaces_of t₀) start f' s)
    onward = sym going.same ∙ running_came (spaces_of t₀) start f f' m (state_of t) came
        ∙ ap (λ (b : Base). stepped (taking (spaces_for b.lengths) m (state_of t)) start m f' (λ s. running_on (spaces_of t₀) start f' s)) (sym going.base)

    pub going_refused : (e : Refusal) (t' : Tables) → Denied (taking (spaces_of t) m (state_of t)) e t t' → WithRefusal (running_on (spaces_of t₀) start f₀ (state_of t₀)) t₀ e t' f'
    going_refused e t' d = record {
      told = onward ∙ ap (λ r. stepped r start m f' (λ s. running_on (spaces_of t₀) start f' s)) d.why;
      base = d.base ∙ going.base;
    }

    pub going_done : (t' : Tables) → Done (taking (spaces_of t) m (state_of t)) t t' → is_document_end m.event.kind ≡ true
        → (l : Loaded) → l ≡ counted start m (state_of t') → WithDocument (running_on (spaces_of t₀) start f₀ (state_of t₀)) t₀ l t' f'
    going_done t' d end l is = record {
      told = onward ∙ ap (λ r. stepped r start m f' (λ s. running_on (spaces_of t₀) start f' s)) d.state
          ∙ cond-true _ (complete start m (state_of t') f') (running_on (spaces_of t₀) start f' (state_of t')) end
          ∙ ap (λ x. record { answer = Ok (Some x); holds = kept (state_of t'); phase = Between; flow = f' }) (sym is);
      base = d.base ∙ going.base;
      clean = λ k. d.clean (going.clean k);
    }

    pub going_on : (t' : Tables) → Done (taking (spaces_of t) m (state_of t)) t t' → is_document_end m.event.kind ≡ false → Going start f₀ t₀ f' t'
    going_on t' d more = record {
      same = sym (onward ∙ ap (λ r. stepped r start m f' (λ s. running_on (spaces_of t₀) start f' s)) d.state
          ∙ cond-false _ (complete start m (state_of t') f') (running_on (spaces_of t₀) start f' (state_of t')) more);
      base = d.base ∙ going.base;
      clean = λ k. d.clean (going.clean k);
    }

-- the code's comparison with a document's end
pub document_end_told : (k : EventKind) → sameb the_type k DocumentEnd ≡ is_document_end k
document_end_told k = elim k as (λ v. sameb the_type v DocumentEnd ≡ is_document_end v) [ DocumentEnd ↦ refl | _ ↦ refl ]

-- a document begins
pub begins : (sp : Spaces) (f f' : Flow) (h : Head) (t : Tables) (c : HeadCame f h f') → state_of t ≡ blank → allowed c.one.event ≡ true → h.kind ≡ DocumentStart
    → running_on sp (start_marked h) f' (state_of t) ≡ between_on sp f
begins sp f f' h t c none a is =
    let kind : c.one.event.kind ≡ DocumentStart = sym (ap (λ x. x.kind) c.told) ∙ is in
    let start = start_told c.one h c.told a kind in
    sym (ap (between sp f.coming.after f.latest) c.came.first
    ∙ ap (λ k. begun k sp f.coming.after c.one f'.coming.events) kind
    ∙ (λ i. running sp (start i) (sym c.came.lasting i) (sym c.came.latest i) (sym none i) f'.coming.events))
