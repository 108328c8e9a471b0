-- Whole runs.
use Rattle.std.proofs.Common.{◌≡◌, ℕ, true, cond, List, [], ◌∷◌, ◌++◌, map, Some, Ok, Err, Option, Result, sym, refl, ap, ◌∙◌, subst, inl, inr}
use Rattle.std.proofs.lemmas.List.{map-append}
use Rattle.std.proofs.lemmas.Bool.{and_parts, and_from, cases_Bool}
use Rattle.model.specs.declared.EventKind.{EventKind}
use Rattle.model.specs.declared.EventKind.TheVariants.{DocumentEnd}
use Rattle.model.specs.declared.Fault.{Fault}
use Rattle.model.specs.Events.{Ev, allowed, all_allowed}
use Rattle.model.specs.Reading.{Marked, bare}
use Rattle.document.specs.declared.node.Node.{Node}
use Rattle.serial.specs.Compose.{frame, TakesAll, Composes}
use Rattle.serial.proofs.Unique.{one_document}
use Rattle.composer.specs.declared.frames.Frame.{Frame}
use Rattle.composer.specs.declared.refusal.Refusal.{Refusal}
use Rattle.composer.specs.declared.refusal.Refusal.TheVariants.{NotInTurn}
use Rattle.composer.specs.State.{St, blank, Spaces}
use Rattle.composer.specs.Steps.{ends_document, in_turn, taken, taking}
use Rattle.loader.specs.declared.answer.Loaded.{Loaded}
use Rattle.loader.specs.Loading.{is_document_end, flowing, complete, stepped, running}
use Rattle.loads.specs.Tidy.{root_of, open_ones_of, composed_of}
use Rattle.loads.specs.Runs.{Went, none, more, graph_in, Ran, LoadedRan, RanLoaded, WentComposes, LoadComposes}
use Rattle.loads.proofs.Ways.{ok_if}
use Rattle.loads.proofs.Steps.{step_composes, blank_tidy}

-- a document's end changes nothing
document_end : (k : EventKind) → is_document_end k ≡ true → k ≡ DocumentEnd
document_end k = elim k as (λ v. is_document_end v ≡ true → v ≡ DocumentEnd) [ DocumentEnd ↦ λ h. refl | _ ↦ λ h. cc ]

pub end_taking : (sp : Spaces) (m : Marked) (s : St) → is_document_end m.event.kind ≡ true
    → taking sp m s ≡ cond (ends_document s.frames s.nodes) (Ok s) (Err (NotInTurn m.start))
end_taking sp m s h = ap (λ k. cond (in_turn k s) (taken k sp m s) (Err (NotInTurn m.start))) (document_end m.event.kind h)

end_ok : (sp : Spaces) (m : Marked) (s t : St) → is_document_end m.event.kind ≡ true → taking sp m s ≡ Ok t → (ends_document s.frames s.nodes ≡ true) × (t ≡ s)
end_ok sp m s t h e =
    let a = ok_if (ends_document s.frames s.nodes) (Ok s) (NotInTurn m.start) t (sym (end_taking sp m s h) ∙ e) in
    let q = a.1 in (a.0, (cc))

module _ (sp : Spaces) (start : Marked) (after : Option Fault) where
  ran_one : (latest : Option Ev) (s : St) (m : Marked) (ms : List Marked) (l : Loaded)
      → ((t : St) → (running sp start after (Some m.event) t ms).answer ≡ Ok (Some l) → Ran sp start after t ms (running sp start after (Some m.event) t ms))
      → (r : Result St Refusal) → taking sp m s ≡ r
      → (stepped r start m (flowing (Some m.event) ms after) (λ t. running sp start after (Some m.event) t ms)).answer ≡ Ok (Some l)
      → Ran sp start after s (m ∷ ms) (stepped r start m (flowing (Some m.event) ms after) (λ t. running sp start after (Some m.event) t ms))
  ran_one latest s m ms l on (Err e) is h = cc
  ran_one latest s m ms l on (Ok t) is h = elim (cases_Bool (is_document_end m.event.kind)) [
    | inl y ↦ let q = end_ok sp m s t y is in
        rw y (record { events = []; last = m; rest = ms; end_state = t; parts = refl; ends = y; went = subst (λ u. Went sp s [] u) (sym q.1) none; whole = rw q.1 q.0; is = refl })
    | inr f ↦
        let r = on t (rw f at h) in
        rw f (record {
          events = m ∷ r.events;
          last = r.last;
          rest = r.rest;
          end_state = r.end_state;
          parts = ap (λ l. m ∷ l) r.parts;
          ends = r.ends;
          went = more f is r.went;
          whole = r.whole;
          is = r.is;
        })
  ]

pub loaded_ran : LoadedRan
unfolding running
loaded_ran sp start after latest s [] l h = cc
loaded_ran sp start after latest s (m ∷ ms) l h = ran_one sp start after latest s m ms l (λ t. loaded_ran sp start after (Some m.event) t ms l) (taking sp m s) refl h

pub ran_loaded : RanLoaded
unfolding running
ran_loaded sp start after latest s t es rest last none ends whole =
    ap (λ r. stepped r start last (flowing (Some last.event) rest after) (λ t. running sp start after (Some last.event) t rest))
    (end_taking sp last s ends ∙ ap (λ b. cond b (Ok s) (Err (NotInTurn last.start))) whole)
    ∙ ap (λ b. cond b (complete start last s (flowing (Some last.event) rest after)) (running sp start after (Some last.event) s rest)) ends
ran_loaded sp start after latest s t es rest last (more {t = u} {m = m} {ms = ms} other is went) ends whole =
    ap (λ r. stepped r start m (flowing (Some m.event) (ms ++ last ∷ rest) after) (λ t. running sp start after (Some m.event) t (ms ++ last ∷ rest))) is
    ∙ ap (λ b. cond b (complete start m u (flowing (Some m.event) (ms ++ last ∷ rest) after)) (running sp start after (Some m.event) u (ms ++ last ∷ rest))) other
    ∙ ran_loaded sp start after (Some m.event) u t ms rest last went ends whole

pub went_composes : WentComposes
went_composes sp s t es ok tidy none = record { tidy = tidy; taken = TakesAll.none }
went_composes sp s t es ok tidy (more {t = u} {m = m} {ms = ms} other is went) =
    let p = and_parts (allowed m.event) (all_allowed (map bare ms)) ok in
    let a = step_composes sp m s u p.0 other tidy is in
    let b = went_composes sp u t ms p.1 a.tidy went in
    record { tidy = b.tidy; taken = TakesAll.more a.taken b.taken }

pub whole_open : (fs : List Frame) (vs : List Node) (waiting : List ℕ) → ends_document fs vs ≡ true → open_ones_of fs (root_of vs) waiting ≡ frame 0 (1 ∷ []) ∷ []
whole_open [] [] waiting h = cc
whole_open [] (v ∷ vs) waiting h = refl
whole_open (f ∷ fs) vs waiting h = cc

pub allowed_append : (es fs : List Ev) → all_allowed (es ++ fs) ≡ true → (all_allowed es ≡ true) × (all_allowed fs ≡ true)
allowed_append [] fs h = (refl, h)
allowed_append (e ∷ es) fs h =
    let p = and_parts (allowed e) (all_allowed (es ++ fs)) h in
    let q = allowed_append es fs p.1 in
    (and_from (allowed e) (all_allowed es) p.0 q.0, q.1)

pub load_composes : LoadComposes
load_composes sp start after latest ms l ok h =
    let r = loaded_ran sp start after latest blank ms l h in
    let all : all_allowed (map bare r.events) ≡ true
    = (allowed_append (map bare r.events) (map bare (r.last ∷ r.rest)) (ap all_allowed (sym (map-append bare r.events (r.last ∷ r.rest)) ∙ ap (map bare) (sym r.parts)) ∙ ok)).0 in
    let a = went_composes sp blank r.end_state r.events all blank_tidy r.went in
    let c : Composes (map bare r.events) (graph_in r.end_state) = record {
      end_state = composed_of r.end_state;
      taken_in = a.taken;
      complete = whole_open r.end_state.frames r.end_state.nodes r.end_state.waiting r.whole;
      result = refl;
    } in
    let same : graph_in r.end_state ≡ graph_in (running sp start after latest blank ms).holds = ap (λ o. graph_in o.holds) (sym r.is) in
    record {
      events = r.events;
      last = r.last;
      rest = r.rest;
      parts = r.parts;
      ends = r.ends;
      composes = subst (Composes (map bare r.events)) same c;
      only = λ g d. one_document d c ∙ same;
    }
