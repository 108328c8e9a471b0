-- Marks are kept.
use Rattle.std.proofs.Common.{◌≡◌, ℕ, zero, suc, ◌-◌, Bool, true, false, List, [], ◌∷◌, map, length, set, Some, None, Ok, Option, sym, refl, ap, ◌∙◌, subst, ap₂, arith}
use Rattle.std.proofs.lemmas.List.{length-append, length-map, map_push}
use Rattle.std.proofs.lemmas.Bool.{and_parts}
use Rattle.model.specs.declared.EventKind.{EventKind}
use Rattle.model.specs.declared.EventKind.TheVariants.{StreamStart, StreamEnd, DocumentStart, DocumentEnd, Alias, Scalar as ScalarEvent, SequenceStart, SequenceEnd, MappingStart, MappingEnd}
use Rattle.model.specs.declared.NodeKind.{NodeKind}
use Rattle.model.specs.declared.NodeKind.TheVariants.{Scalar, Sequence, Mapping}
use Rattle.model.specs.declared.Mark.{Mark}
use Rattle.model.specs.Events.{allowed, all_allowed}
use Rattle.model.specs.Graph.{nth}
use Rattle.model.specs.Reading.{Marked, bare}
use Rattle.document.specs.declared.node.Node.{Node}
use Rattle.serial.specs.Compose.{resolved}
use Rattle.composer.specs.declared.frames.Frame.{Frame}
use Rattle.composer.specs.declared.refusal.Refusal.TheVariants.{NotInTurn}
use Rattle.composer.specs.Names.{found}
use Rattle.composer.specs.State.{St, blank, Spaces}
use Rattle.composer.specs.Steps.{in_turn, alias_of, value_for, node_from, node_step, opening, start_step, linked, closing, closed_by, taken}
use Rattle.loader.specs.Loading.{counted}
use Rattle.loads.specs.Tidy.{AllOpen, Tidy}
use Rattle.loads.specs.Runs.{Went, none, more}
use Rattle.loads.specs.Marks.{Spans, ends_at, with_span, opened_span, ended_span, spanned, spans_of, span_of, LoadedMarks}
use Rattle.loads.proofs.Making.{added_frames}
use Rattle.loads.proofs.Ways.{ok_if, ok_next}
use Rattle.loads.proofs.Stepping.{after_node, node_ok, adding_ok, opening_ok}
use Rattle.loads.proofs.Closing.{linked_at_lem}
use Rattle.loads.proofs.Steps.{ends, ends_some, step_composes, blank_tidy}
use Rattle.loads.proofs.Running.{loaded_ran}
use Rattle.loads.proofs.Exactly.{front_allowed}

abbrev place_of : Frame → ℕ
place_of f = f.node - 1

abbrev spans_in : St → Spans
spans_in s = record { nodes = map span_of s.nodes; opens = map place_of s.frames }

places_added : (fs : List Frame) → map place_of (added_frames fs) ≡ map place_of fs
places_added [] = refl
places_added (f ∷ fs) = refl

spans_node : (k : NodeKind) (m : Marked) (s : St) → spans_in (after_node k m s) ≡ with_span m (spans_in s)
spans_node k m s =
    let v : Node = node_from k m.event.style (length s.text) (length (resolved k m.event.tag)) (length (value_for k m.event.value)) m.start m.end in
    λ i. record { nodes = map_push span_of s.nodes v i; opens = places_added s.frames i }

spans_scalar : (sp : Spaces) (k : NodeKind) (m : Marked) (s t : St) → node_step sp k m s ≡ Ok t → spans_in t ≡ with_span m (spans_in s)
spans_scalar sp k m s t h = ap spans_in (node_ok sp k m s t h).1 ∙ spans_node k m s

spans_start : (sp : Spaces) (k : NodeKind) (m : Marked) (s t : St) → start_step sp k m s ≡ Ok t → spans_in t ≡ opened_span (length (spans_in s).nodes) (with_span m (spans_in s))
spans_start sp k m s t h =
    let a = ok_next (node_step sp k m s) (opening k m.start) t h in
    let u : St = a.0 in
    let b : spans_in u ≡ with_span m (spans_in s) = spans_scalar sp k m s u a.1 in
    let n : length u.nodes - 1 ≡ length (map span_of s.nodes)
    = omega (arith, sym (length-map u.nodes span_of) ∙ ap (λ q. length q.nodes) b, length-append (map span_of s.nodes) ((m.start, m.end) ∷ [])) in
    ap spans_in (opening_ok k m.start u t a.2) ∙ ap₂ opened_span n b

spans_alias : (o : Option ℕ) (sp : Spaces) (at : Mark) (s t : St) → alias_of o sp at s ≡ Ok t → spans_in t ≡ spans_in s
spans_alias None sp at s t h = cc
spans_alias (Some v) sp at s t h = ap spans_in (adding_ok s.frames sp at v s t refl h) ∙ (λ i. record { nodes = map span_of s.nodes; opens = places_added s.frames i })

ends_set : (nodes : List Node) (i : ℕ) (v w : Node) → nth nodes i ≡ Some v → w.start ≡ v.start → map span_of (set nodes i w) ≡ ends_at (map span_of nodes) i w.end
ends_set [] i v w here same = refl
ends_set (x ∷ nodes) zero v w here same = let e : v ≡ x = cc in ap (λ q. (q, w.end) ∷ map span_of nodes) (same ∙ ap (λ q. q.start) e)
ends_set (x ∷ nodes) (suc i) v w here same = ap (λ l. span_of x ∷ l) (ends_set nodes i v w here same)

spans_closing : (mapping : Bool) (fs : List Frame) (m : Marked) (s t : St) → s.frames ≡ fs → ends mapping fs ≡ true → Tidy s → closing fs m.end s ≡ Ok t → spans_in t ≡ ended_span (map place_of fs) m (spans_in s)
spans_closing mapping [] m s t is turn tidy h = absurd (ends_some mapping turn)
spans_closing mapping (f ∷ fs) m s t is turn tidy h =
    let q : t ≡ closed_by f fs m.end s = cc in
    let o : AllOpen s.nodes (length s.nodes) (f ∷ fs) s.waiting = subst (λ l. AllOpen s.nodes (length s.nodes) l s.waiting) is tidy.opens in
    let place : o.0.place ≡ f.node - 1 = omega (arith, o.0.number) in
    let w : Node = linked o.0.node (length s.links) f.children m.end in
    let nodes = ap (map span_of) (linked_at_lem s.nodes f.node o.0.place o.0.node (length s.links) f.children m.end o.0.number o.0.here)
    ∙ ends_set s.nodes o.0.place o.0.node w o.0.here refl ∙ ap (λ i. ends_at (map span_of s.nodes) i m.end) place in
    ap spans_in q ∙ (λ i. record { nodes = nodes i; opens = map place_of fs })

by_kind : (k : EventKind) (sp : Spaces) (m : Marked) (s t : St) → Tidy s → in_turn k s ≡ true → taken k sp m s ≡ Ok t → spans_in t ≡ spanned k m (spans_in s)
by_kind StreamStart sp m s t tidy turn h = let e : t ≡ s = cc in ap spans_in e
by_kind StreamEnd sp m s t tidy turn h = let e : t ≡ s = cc in ap spans_in e
by_kind DocumentStart sp m s t tidy turn h = let e : t ≡ s = cc in ap spans_in e
by_kind DocumentEnd sp m s t tidy turn h = let e : t ≡ s = cc in ap spans_in e
by_kind Alias sp m s t tidy turn h = spans_alias (found s.anchors m.event.anchor) sp m.start s t h
by_kind ScalarEvent sp m s t tidy turn h = spans_scalar sp Scalar m s t h
by_kind SequenceStart sp m s t tidy turn h = spans_start sp Sequence m s t h
by_kind SequenceEnd sp m s t tidy turn h = spans_closing false s.frames m s t refl turn tidy h
by_kind MappingStart sp m s t tidy turn h = spans_start sp Mapping m s t h
by_kind MappingEnd sp m s t tidy turn h = spans_closing true s.frames m s t refl turn tidy h

pub went_spans : (sp : Spaces) {s t : St} {es : List Marked} → all_allowed (map bare es) ≡ true → Tidy s → Went sp s es t → spans_in t ≡ spans_of (spans_in s) es
went_spans sp ok tidy none = refl
went_spans sp {t = t} ok tidy (more {s = s} {t = u} {m = m} {ms = ms} other is went) =
    let p = and_parts (allowed m.event) (all_allowed (map bare ms)) ok in
    let a = ok_if (in_turn m.event.kind s) (taken m.event.kind sp m s) (NotInTurn m.start) u is in
    went_spans sp p.1 (step_composes sp m s u p.0 other tidy is).tidy went
    ∙ ap (λ q. spans_of q ms) (by_kind m.event.kind sp m s u tidy a.0 a.1)

pub loaded_marks : LoadedMarks
loaded_marks sp start after latest ms l ok h =
    let r = loaded_ran sp start after latest blank ms l h in
    let spans = went_spans sp (front_allowed r.events (r.last ∷ r.rest) r.parts ok) blank_tidy r.went in
    let same : Ok (Some l) ≡ Ok (Some (counted start r.last r.end_state)) = sym h ∙ ap (λ o. o.answer) r.is in
    let count : l ≡ counted start r.last r.end_state = cc in
    record {
      events = r.events;
      last = r.last;
      rest = r.rest;
      parts = r.parts;
      nodes = ap (λ o. map span_of o.holds.nodes) r.is ∙ ap (λ q. q.nodes) spans;
      begins = ap (λ q. q.start) count;
      ends = ap (λ q. q.end) count;
    }
