-- Each event that is taken in is taken in by composing.
use Rattle.std.proofs.Common.{◌≡◌, ℕ, ◌%◌, ◌≤◌, Bool, true, false, eqb, List, [], ◌∷◌, ◌++◌, length, Some, None, Ok, Option, sym, refl, ap, ◌∙◌, arith}
use Rattle.std.proofs.lemmas.Bool.{and_parts, eqb-true, not-true}
use Rattle.model.specs.declared.EventKind.{EventKind}
use Rattle.model.specs.declared.EventKind.TheVariants.{StreamStart, StreamEnd, DocumentStart, DocumentEnd, Alias, Scalar as ScalarEvent, SequenceStart, SequenceEnd, MappingStart, MappingEnd}
use Rattle.model.specs.declared.NodeKind.TheVariants.{Sequence, Mapping}
use Rattle.model.specs.Events.{allowed}
use Rattle.model.specs.Reading.{Marked}
use Rattle.document.specs.declared.node.Node.{Node}
use Rattle.serial.specs.Compose.{frame, alias, beginning}
use Rattle.serial.specs.Serialize.{end_kind}
use Rattle.composer.specs.declared.frames.Frame.{Frame}
use Rattle.composer.specs.declared.refusal.Refusal.TheVariants.{NotInTurn}
use Rattle.composer.specs.Names.{found}
use Rattle.composer.specs.State.{St, blank, Spaces}
use Rattle.composer.specs.Steps.{takes_child, ends_sequence, ends_mapping, in_turn, alias_of, closing, closed_by, taken}
use Rattle.loads.specs.Tidy.{root_of, open_ones_of, composed_of, Tidy, collection_kind}
use Rattle.loads.proofs.Making.{added_frames, added_waiting, tidy_added, received}
use Rattle.loads.proofs.Ways.{ok_if}
use Rattle.loads.specs.Stepping.{TakenIn, StepComposes}
use Rattle.loader.specs.Loading.{is_document_end}
use Rattle.loads.proofs.Stepping.{adding_ok, scalar_step, start_step_lem}
use Rattle.loads.proofs.Closing.{closed_after, tidy_closed, taken_closed}
use Rattle.loads.proofs.Events.{no_value}

root_there : (vs : List Node) → 1 ≤ length vs → root_of vs ≡ 1 ∷ []
root_there [] h = absurd (omega arith)
root_there (v ∷ vs) h = refl

alias_step : (o : Option ℕ) (sp : Spaces) (m : Marked) (s t : St) → found s.anchors m.event.anchor ≡ o → m.event.kind ≡ Alias → takes_child s.frames s.nodes ≡ true
    → Tidy s → alias_of o sp m.start s ≡ Ok t → TakenIn m s t
alias_step None sp m s t is kind turn tidy h = cc
alias_step (Some v) sp m s t is kind turn tidy h =
    let k = tidy.known m.event.anchor v is in
    let r = received s.frames s.nodes s.waiting v turn tidy.opens (λ none. absurd (omega (arith, k, ap length none))) in
    let opens : open_ones_of (added_frames s.frames) (root_of s.nodes) (added_waiting s.frames v s.waiting) ≡ frame r.to (r.children ++ v ∷ []) ∷ r.others
    = ap (λ l. open_ones_of (added_frames s.frames) l (added_waiting s.frames v s.waiting)) (root_there s.nodes (omega (arith, k))) ∙ r.after in
    rw (adding_ok s.frames sp m.start v s t refl h) (record {
      tidy = tidy_added s.frames v s tidy.opens tidy;
      taken = alias kind r.before r.takes (sym (tidy.names m.event.anchor) ∙ is) (λ i. record { nodes = (composed_of s).nodes; names = (composed_of s).names; open_ones = opens i });
    })

abbrev pub ends : Bool → List Frame → Bool
ends false fs = ends_sequence fs
ends true fs = ends_mapping fs

pub ends_some : (mapping : Bool) → ends mapping [] ≡ true → ⊥
ends_some false h = cc
ends_some true h = cc

pub ends_fit : (mapping : Bool) (f : Frame) (fs : List Frame) → ends mapping (f ∷ fs) ≡ true → (f.mapping ≡ mapping) × (mapping ≡ true → f.children % 2 ≡ 0)
ends_fit false f fs h = (not-true f.mapping h, λ e. cc)
ends_fit true f fs h = let p = and_parts f.mapping (eqb (f.children % 2) 0) h in (p.0, λ e. eqb-true (f.children % 2) 0 p.1)

pub end_step : (mapping : Bool) (fs : List Frame) (m : Marked) (s t : St) → s.frames ≡ fs → m.event.kind ≡ end_kind (collection_kind mapping)
    → ends mapping fs ≡ true → Tidy s → closing fs m.end s ≡ Ok t → TakenIn m s t
end_step mapping [] m s t is kind turn tidy h = absurd (ends_some mapping turn)
end_step mapping (f ∷ fs) m s t is kind turn tidy h =
    let p = ends_fit mapping f fs turn in
    let k : m.event.kind ≡ end_kind (collection_kind f.mapping) = kind ∙ ap (λ b. end_kind (collection_kind b)) (sym p.0) in
    let even : f.mapping ≡ true → f.children % 2 ≡ 0 = λ b. p.1 (sym p.0 ∙ b) in
    let q : t ≡ closed_by f fs m.end s = cc in
    rw (q ∙ closed_after s f fs m.end m.event is tidy k even) (record {
      tidy = tidy_closed s f fs m.end m.event is tidy k even;
      taken = taken_closed s f fs m.end m.event is tidy k even;
    })

by_kind : (k : EventKind) (sp : Spaces) (m : Marked) (s t : St) → m.event.kind ≡ k → is_document_end k ≡ false → allowed m.event ≡ true → Tidy s
    → in_turn k s ≡ true → taken k sp m s ≡ Ok t → TakenIn m s t
by_kind StreamStart sp m s t is other ok tidy turn h = cc
by_kind StreamEnd sp m s t is other ok tidy turn h = cc
by_kind DocumentStart sp m s t is other ok tidy turn h = cc
by_kind DocumentEnd sp m s t is other ok tidy turn h = cc
by_kind Alias sp m s t is other ok tidy turn h = alias_step (found s.anchors m.event.anchor) sp m s t refl is turn tidy h
by_kind ScalarEvent sp m s t is other ok tidy turn h = scalar_step sp m s t is turn tidy h
by_kind SequenceStart sp m s t is other ok tidy turn h = start_step_lem sp Sequence m s t refl is (no_value m.event Sequence ok is refl) turn tidy h
by_kind SequenceEnd sp m s t is other ok tidy turn h = end_step false s.frames m s t refl is turn tidy h
by_kind MappingStart sp m s t is other ok tidy turn h = start_step_lem sp Mapping m s t refl is (no_value m.event Mapping ok is refl) turn tidy h
by_kind MappingEnd sp m s t is other ok tidy turn h = end_step true s.frames m s t refl is turn tidy h

pub step_composes : StepComposes
step_composes sp m s t ok other tidy h =
    let a = ok_if (in_turn m.event.kind s) (taken m.event.kind sp m s) (NotInTurn m.start) t h in
    by_kind m.event.kind sp m s t refl other ok tidy a.0 a.1

pub blank_tidy : Tidy blank
blank_tidy = record {
  placed = tt;
  opens = refl;
  names = λ a. refl;
  known = λ a v h. cc;
  texts = refl;
  placed_links = refl;
}

pub blank_begins : composed_of blank ≡ beginning
blank_begins = refl
