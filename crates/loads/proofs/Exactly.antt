-- A document is loaded exactly where its events compose, with space all the way.
use Rattle.std.proofs.Common.{◌≡◌, ℕ, true, false, cond, List, [], ◌∷◌, ◌++◌, map, Some, Option, sym, refl, ap, ◌∙◌, subst, Err}
use Rattle.std.proofs.lemmas.List.{append_assoc, map-append}
use Rattle.std.proofs.lemmas.Bool.{and_parts}
use Rattle.model.specs.declared.Fault.{Fault}
use Rattle.model.specs.Events.{Ev, allowed, all_allowed}
use Rattle.model.specs.Reading.{Marked, bare}
use Rattle.document.specs.declared.node.Node.{Node}
use Rattle.serial.specs.Compose.{frame, Composed, TakesIn, alias, scalar, start as starting, end as ending, TakesAll, beginning}
use Rattle.serial.proofs.Unique.{takes_append}
use Rattle.composer.specs.declared.frames.Frame.{Frame}
use Rattle.composer.specs.State.{St, blank, Spaces}
use Rattle.composer.specs.Steps.{ends_document}
use Rattle.loader.specs.Loading.{is_document_end, flowing, complete, counted, missing, stepped, running}
use Rattle.loads.specs.Tidy.{root_of, open_ones_of, composed_of, Tidy}
use Rattle.loads.specs.Runs.{Went}
use Rattle.loads.specs.Room.{TakesWithin, Within, LoadedExactly, EventsFit, ComposedLoads, StopsWithin}
use Rattle.loads.proofs.Steps.{step_composes, blank_tidy}
use Rattle.loads.proofs.Accepting.{step_accepted, no_end_start, no_end_end}
use Rattle.loads.proofs.Keeping.{step_within, blank_within, within_fits}
use Rattle.loads.proofs.Running.{loaded_ran, ran_loaded, whole_open, allowed_append}

-- from the tables to composing
pub went_within : (sp : Spaces) {s t : St} {es : List Marked} → all_allowed (map bare es) ≡ true → Tidy s → Within sp s → Went sp s es t → TakesWithin sp (composed_of s) (map bare es) (composed_of t)
went_within sp ok tidy w Went.none = TakesWithin.none
went_within sp ok tidy w (Went.more {s = s} {t = u} {m = m} {ms = ms} other is went) =
    let p = and_parts (allowed m.event) (all_allowed (map bare ms)) ok in
    let a = step_composes sp m s u p.0 other tidy is in
    let b = step_within sp m s u w is in
    TakesWithin.more a.taken (within_fits sp u a.tidy b) (went_within sp p.1 a.tidy b went)

-- and back
takes_other : {s t : Composed} {e : Ev} → TakesIn s e t → is_document_end e.kind ≡ false
takes_other (alias kind was takes known is) = ap is_document_end kind
takes_other (scalar kind was takes new is) = ap is_document_end kind
takes_other {e = e} (starting k collection kind was takes new is) = no_end_start k e.kind kind
takes_other {e = e} (ending {x = x} was here collection kind whole is) = no_end_end x.look.kind e.kind collection kind

pub record Gone (sp : Spaces) (s : St) (es : List Marked) (c : Composed) : Type 0 where
  pub to : St
  pub went : Went sp s es to
  pub stands : composed_of to ≡ c
  pub tidy : Tidy to

pub takes_went : (sp : Spaces) (es : List Marked) (s : St) {d c : Composed} → composed_of s ≡ d → all_allowed (map bare es) ≡ true → Tidy s → TakesWithin sp d (map bare es) c → Gone sp s es c
takes_went sp [] s is ok tidy TakesWithin.none = record { to = s; went = Went.none; stands = is; tidy = tidy }
takes_went sp (m ∷ es) s {d = d} is ok tidy (TakesWithin.more {t = u} a fits rest) =
    let p = and_parts (allowed m.event) (all_allowed (map bare es)) ok in
    let r = step_accepted sp m s u p.0 tidy (subst (λ q. TakesIn q m.event u) (sym is) a) fits in
    let g = takes_went sp es r.to r.stands p.1 r.tidy rest in
    record { to = g.to; went = Went.more (takes_other a) r.taken g.went; stands = g.stands; tidy = g.tidy }

pub open_whole : (fs : List Frame) (vs : List Node) (wait : List ℕ) → open_ones_of fs (root_of vs) wait ≡ frame 0 (1 ∷ []) ∷ [] → ends_document fs vs ≡ true
open_whole [] [] wait h = cc
open_whole [] (v ∷ vs) wait h = refl
open_whole (f ∷ []) vs wait h = cc
open_whole (f ∷ (f' ∷ fs)) vs wait h = cc

whole_ends : (s : St) (c : Composed) → composed_of s ≡ c → c.open_ones ≡ frame 0 (1 ∷ []) ∷ [] → ends_document s.frames s.nodes ≡ true
whole_ends s c is h = open_whole s.frames s.nodes s.waiting (ap (λ q. q.open_ones) is ∙ h)

pub front_allowed : {ms : List Marked} (es rest : List Marked) → ms ≡ es ++ rest → all_allowed (map bare ms) ≡ true → all_allowed (map bare es) ≡ true
front_allowed es rest parts ok = (allowed_append (map bare es) (map bare rest) (ap all_allowed (sym (map-append bare es rest) ∙ ap (map bare) (sym parts)) ∙ ok)).0

pub loaded_exactly : LoadedExactly
loaded_exactly sp start after latest ms ok = record {
  loaded = λ f.
      let g = takes_went sp f.events blank refl (front_allowed f.events (f.last ∷ f.rest) f.parts ok) blank_tidy f.loadable.within in
      let r = ran_loaded sp start after latest blank g.to f.events f.rest f.last g.went f.ends (whole_ends g.to f.loadable.end_state g.stands f.loadable.whole) in
      (counted start f.last g.to, ap (λ l. (running sp start after latest blank l).answer) f.parts ∙ ap (λ o. o.answer) r);
  only = λ l h.
      let r = loaded_ran sp start after latest blank ms l h in
      record {
        events = r.events;
        last = r.last;
        rest = r.rest;
        parts = r.parts;
        ends = r.ends;
        loadable = record {
          end_state = composed_of r.end_state;
          within = went_within sp (front_allowed r.events (r.last ∷ r.rest) r.parts ok) blank_tidy (blank_within sp) r.went;
          whole = whole_open r.end_state.frames r.end_state.nodes r.end_state.waiting r.whole;
        };
      };
}

-- space in every state
within_from : (sp : Spaces) (done : List Ev) {s c : Composed} {es : List Ev} → TakesAll beginning done s → TakesAll s es c → EventsFit sp (done ++ es) → TakesWithin sp s es c
within_from sp done before TakesAll.none fit = TakesWithin.none
within_from sp done before (TakesAll.more {t = t} {e = e} {es = es} a rest) fit =
    let b = takes_append before (TakesAll.more a TakesAll.none) in
    TakesWithin.more a (fit (done ++ e ∷ []) es t b (append_assoc done (e ∷ []) es))
    (within_from sp (done ++ e ∷ []) b rest (subst (EventsFit sp) (sym (append_assoc done (e ∷ []) es)) fit))

pub composed_loads : ComposedLoads
composed_loads sp start after latest es rest last g ok c fit ends =
    let r = takes_went sp es blank refl ok blank_tidy (within_from sp [] TakesAll.none c.taken_in fit) in
    record {
      state = r.to;
      tidy = r.tidy;
      graph = ap (λ q. q.nodes) r.stands ∙ c.result;
      is = ran_loaded sp start after latest blank r.to es rest last r.went ends (whole_ends r.to c.end_state r.stands c.complete);
    }

stops : (sp : Spaces) (start : Marked) (after : Option Fault) (latest : Option Ev) {s t : St} {es : List Marked} → Went sp s es t → (running sp start after latest s es).answer ≡ Err (missing after)
unfolding running
stops sp start after latest Went.none = refl
stops sp start after latest (Went.more {t = u} {m = m} {ms = ms} other is went) =
    ap (λ r. (stepped r start m (flowing (Some m.event) ms after) (λ t. running sp start after (Some m.event) t ms)).answer) is
    ∙ ap (λ b. (cond b (complete start m u (flowing (Some m.event) ms after)) (running sp start after (Some m.event) u ms)).answer) other
    ∙ stops sp start after (Some m.event) went

pub stops_within : StopsWithin
stops_within sp start after latest es c ok taken fit =
    stops sp start after latest (takes_went sp es blank refl ok blank_tidy (within_from sp [] TakesAll.none taken fit)).went
