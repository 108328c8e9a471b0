-- One load, whole.
use Rattle.std.proofs.Common.{◌≡◌, true, cond, List, [], ◌∷◌, ◌++◌, map, Some, Option, sym, refl, ap, ◌∙◌, subst, inl, inr, arith, Ok}
use Rattle.std.proofs.lemmas.Bool.{and_parts, cases_Bool}
use Rattle.model.specs.declared.EventKind.{EventKind}
use Rattle.model.specs.declared.EventKind.TheVariants.{StreamStart, StreamEnd, DocumentStart, DocumentEnd, Alias, Scalar, SequenceStart, SequenceEnd, MappingStart, MappingEnd}
use Rattle.model.specs.declared.Fault.{Fault}
use Rattle.model.specs.Events.{Ev, allowed, all_allowed}
use Rattle.model.specs.Reading.{Marked, bare}
use Rattle.yaml.specs.Flow.{Flow}
use Rattle.serial.specs.Compose.{Composes}
use Rattle.serial.proofs.Soundness.{composed_sound}
use Rattle.serial.proofs.Unique.{one_document}
use Rattle.composer.specs.State.{St, blank, Lengths, Spaces, spaces_for}
use Rattle.loader.specs.declared.answer.Loaded.{Loaded}
use Rattle.loader.specs.declared.answer.Phase.{Phase}
use Rattle.loader.specs.declared.answer.Phase.TheVariants.{Fresh, Between, Ended, Spoilt}
use Rattle.loader.specs.Loading.{flowing, refused, counted, begun, between, is_stream_start, fresh, running}
use Rattle.composer.specs.declared.refusal.Refusal.TheVariants.{NotInTurn}
use Rattle.loads.specs.Tidy.{composed_of}
use Rattle.loads.specs.Runs.{graph_in}
use Rattle.loads.specs.Standing.{Limited}
use Rattle.loads.specs.Loads.{Opens, GivenDocument, LoadGives, LoadRuns}
use Rattle.loads.proofs.Running.{loaded_ran, whole_open}
use Rattle.loads.proofs.Exactly.{front_allowed}
use Rattle.loads.proofs.Standing.{went_left, blank_left, stands}
use Rattle.loads.proofs.Order.{composed_led, composed_order}
use Rattle.loads.proofs.Marks.{went_spans}
use Rattle.loads.proofs.Running.{went_composes}
use Rattle.loads.proofs.Steps.{blank_tidy}

limited : (n : Lengths) → Limited (spaces_for n)
limited n = record { nodes = omega arith; links = omega arith; text = omega arith }

gave : (n : Lengths) (p : Phase) (f : Flow) (before : List Marked) (start : Marked) (ms : List Marked) (latest : Option Ev) (l : Loaded) → Opens p before → f.coming.events ≡ before ++ start ∷ ms → start.event.kind ≡ DocumentStart
    → all_allowed (map bare ms) ≡ true → (running (spaces_for n) start f.coming.after latest blank ms).answer ≡ Ok (Some l) → GivenDocument p f l (running (spaces_for n) start f.coming.after latest blank ms)
gave n p f before start ms latest l opens is kind ok h =
    let sp : Spaces = spaces_for n in
    let after : Option Fault = f.coming.after in
    let r = loaded_ran sp start after latest blank ms l h in
    let t : St = r.end_state in
    let all = front_allowed r.events (r.last ∷ r.rest) r.parts ok in
    let a = went_composes sp blank t r.events all blank_tidy r.went in
    let c : Composes (map bare r.events) (graph_in t) = record {
      end_state = composed_of t;
      taken_in = a.taken;
      complete = whole_open t.frames t.nodes t.waiting r.whole;
      result = refl;
    } in
    let same : Ok (Some l) ≡ Ok (Some (counted start r.last t)) = sym h ∙ ap (λ o. o.answer) r.is in
    let count : l ≡ counted start r.last t = cc in
    subst (GivenDocument p f l) (sym r.is) (record {
      before = before;
      opens = opens;
      start = start;
      events = r.events;
      last = r.last;
      rest = r.rest;
      parts = is ∙ ap (λ q. before ++ start ∷ q) r.parts;
      starts = kind;
      ends = r.ends;
      composes = c;
      only = λ g d. one_document d c;
      sound = composed_sound (map bare r.events) (graph_in t) all c;
      led = λ v x y. composed_led (map bare r.events) (graph_in t) v all c x y;
      in_order = λ deep ts seen w. composed_order (map bare r.events) (graph_in t) deep ts seen c w;
      stands = λ vs ls ts. stands sp t l.nodes vs ls ts (limited n) (went_left sp all (blank_left sp) r.went) (ap (λ q. q.nodes) count);
      spans = ap (λ q. q.nodes) (went_spans sp all blank_tidy r.went);
      begins = ap (λ q. q.start) count;
      stops = ap (λ q. q.end) count;
      start_implicit = ap (λ q. q.start_implicit) count;
      end_implicit = ap (λ q. q.end_implicit) count;
      left = refl;
    })

by_kind : (k : EventKind) (n : Lengths) (p : Phase) (f : Flow) (before : List Marked) (m : Marked) (ms : List Marked) (l : Loaded) → m.event.kind ≡ k → Opens p before → f.coming.events ≡ before ++ m ∷ ms → all_allowed (map bare ms) ≡ true
    → (begun k (spaces_for n) f.coming.after m ms).answer ≡ Ok (Some l) → GivenDocument p f l (begun k (spaces_for n) f.coming.after m ms)
by_kind StreamStart n p f before m ms l is opens parts ok h = cc
by_kind StreamEnd n p f before m ms l is opens parts ok h = cc
by_kind DocumentStart n p f before m ms l is opens parts ok h = gave n p f before m ms (Some m.event) l opens parts is ok h
by_kind DocumentEnd n p f before m ms l is opens parts ok h = cc
by_kind Alias n p f before m ms l is opens parts ok h = cc
by_kind Scalar n p f before m ms l is opens parts ok h = cc
by_kind SequenceStart n p f before m ms l is opens parts ok h = cc
by_kind SequenceEnd n p f before m ms l is opens parts ok h = cc
by_kind MappingStart n p f before m ms l is opens parts ok h = cc
by_kind MappingEnd n p f before m ms l is opens parts ok h = cc

from_between : (n : Lengths) (p : Phase) (f : Flow) (before ms : List Marked) (latest : Option Ev) (l : Loaded) → Opens p before → f.coming.events ≡ before ++ ms → all_allowed (map bare ms) ≡ true
    → (between (spaces_for n) f.coming.after latest ms).answer ≡ Ok (Some l) → GivenDocument p f l (between (spaces_for n) f.coming.after latest ms)
from_between n p f before [] latest l opens is ok h = cc
from_between n p f before (m ∷ ms) latest l opens is ok h =
    by_kind m.event.kind n p f before m ms l refl opens is (and_parts (allowed m.event) (all_allowed (map bare ms)) ok).1 h

starts_stream : (k : EventKind) → is_stream_start k ≡ true → k ≡ StreamStart
starts_stream k = elim k as (λ v. is_stream_start v ≡ true → v ≡ StreamStart) [ StreamStart ↦ λ h. refl | _ ↦ λ h. cc ]

from_fresh : (n : Lengths) (f : Flow) (ms : List Marked) (l : Loaded) → f.coming.events ≡ ms → all_allowed (map bare ms) ≡ true
    → (fresh (spaces_for n) f.coming.after f.latest ms).answer ≡ Ok (Some l) → GivenDocument Fresh f l (fresh (spaces_for n) f.coming.after f.latest ms)
from_fresh n f [] l is ok h = cc
from_fresh n f (m ∷ ms) l is ok h = elim (cases_Bool (is_stream_start m.event.kind)) [
  | inl t ↦ rw t (from_between n Fresh f (m ∷ []) ms (Some m.event) l (m, starts_stream m.event.kind t, refl) is (and_parts (allowed m.event) (all_allowed (map bare ms)) ok).1 (rw t at h))
  | inr e ↦ let q = rw e at h in cc
]

pub load_gives : LoadGives
load_gives n Fresh f l ok h = from_fresh n f f.coming.events l refl ok h
load_gives n Between f l ok h = from_between n Between f [] f.coming.events f.latest l refl refl ok h
load_gives n Ended f l ok h = cc
load_gives n Spoilt f l ok h = cc

pub load_runs : LoadRuns
load_runs n latest after start ms kind = record {
  between = ap (λ k. begun k (spaces_for n) after start ms) kind;
  first = λ stream is.
      ap (λ k. cond (is_stream_start k) (begun start.event.kind (spaces_for n) after start ms) (refused (NotInTurn stream.start) (flowing (Some stream.event) (start ∷ ms) after))) is
      ∙ ap (λ k. begun k (spaces_for n) after start ms) kind;
}
