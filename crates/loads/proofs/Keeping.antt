-- Accepted steps keep within the space.
use Rattle.std.proofs.Common.{◌≡◌, ℕ, ◌+◌, ◌-◌, ltb, leb, List, [], ◌∷◌, ◌++◌, length, drop, Some, None, Ok, Option, refl, ap, subst, arith}
use Rattle.std.proofs.lemmas.List.{length-append, length-set, length-take, length-drop}
use Rattle.std.proofs.lemmas.Bool.{ltb-true, leb-true}
use Rattle.model.specs.declared.EventKind.{EventKind}
use Rattle.model.specs.declared.EventKind.TheVariants.{StreamStart, StreamEnd, DocumentStart, DocumentEnd, Alias, Scalar as ScalarEvent, SequenceStart, SequenceEnd, MappingStart, MappingEnd}
use Rattle.model.specs.declared.NodeKind.{NodeKind}
use Rattle.model.specs.declared.NodeKind.TheVariants.{Scalar, Sequence, Mapping}
use Rattle.model.specs.declared.Mark.{Mark}
use Rattle.model.specs.Graph.{numbered}
use Rattle.model.specs.Reading.{Marked}
use Rattle.document.specs.declared.node.Node.{Node}
use Rattle.serial.specs.Compose.{resolved}
use Rattle.composer.specs.declared.frames.Frame.{Frame}
use Rattle.composer.specs.declared.refusal.Refusal.TheVariants.{NotInTurn, NodesFull, TextFull, AnchorsFull, ChildrenFull, TooDeep}
use Rattle.composer.specs.Names.{found, entry_of}
use Rattle.composer.specs.State.{St, blank, Spaces}
use Rattle.composer.specs.Steps.{in_turn, adding_to, alias_of, value_for, node_from, noding, naming_by, registering, adding_newest, naming_adding, node_step, opening, start_step, with_child, linked_at, closing, closed_by, taken}
use Rattle.loads.specs.Tidy.{composed_of, Tidy}
use Rattle.loads.specs.Room.{Fits, Within, StepWithin}
use Rattle.loads.proofs.Ways.{ok_if, ok_next}
use Rattle.loads.proofs.Stepping.{noding_ok, naming_ok, adding_ok, opening_ok}
use Rattle.loads.proofs.Sizes.{sizes, root_few}

within_noding : (sp : Spaces) (k : NodeKind) (m : Marked) (s t : St) → Within sp s → noding sp k m s ≡ Ok t → Within sp t
within_noding sp k m s t w h =
    let tag : List ℕ = resolved k m.event.tag in let value : List ℕ = value_for k m.event.value in
    let a = ok_if (ltb (length s.nodes) sp.nodes) _ (NodesFull m.start) t h in
    let b = ok_if (leb (length s.text + (length tag + length value)) sp.text) _ (TextFull m.start) t a.1 in
    let x = ltb-true _ _ a.0 in let y = leb-true _ _ b.0 in
    rw (noding_ok sp k m s t h) (record {
      nodes = omega (arith, x, length-append s.nodes (node_from k m.event.style (length s.text) (length tag) (length value) m.start m.end ∷ []));
      text = omega (arith, y, length-append s.text (tag ++ value), length-append tag value);
      anchors = w.anchors;
      links = w.links;
      waits = w.waits;
      opens = w.opens;
    })

within_naming : (o : Option ℕ) (sp : Spaces) (at : Mark) (bytes : List ℕ) (s t : St) → Within sp s → naming_by o sp at bytes s ≡ Ok t → Within sp t
within_naming None sp at bytes s t w h =
    let x = ltb-true _ _ (ok_if (ltb (length s.anchors) sp.anchors) _ (AnchorsFull at) t h).0 in
    rw (naming_ok None sp at bytes s t h).1 (record {
      nodes = w.nodes;
      text = w.text;
      anchors = omega (arith, x, length-append s.anchors (entry_of bytes (length s.nodes) ∷ []));
      links = w.links;
      waits = w.waits;
      opens = w.opens;
    })
within_naming (Some v) sp at bytes s t w h = cc

within_registering : (bytes : List ℕ) (sp : Spaces) (at : Mark) (s t : St) → Within sp s → registering bytes sp at s ≡ Ok t → Within sp t
within_registering [] sp at s t w h = let e : s ≡ t = cc in subst (Within sp) e w
within_registering (b ∷ bs) sp at s t w h = within_naming (found s.anchors (b ∷ bs)) sp at (b ∷ bs) s t w h

within_adding : (fs : List Frame) (sp : Spaces) (at : Mark) (v : ℕ) (s t : St) → s.frames ≡ fs → Within sp s → adding_to fs sp at v s ≡ Ok t → Within sp t
within_adding [] sp at v s t is w h = let e : s ≡ t = cc in subst (Within sp) e w
within_adding (f ∷ fs) sp at v s t is w h =
    let a = ok_if (ltb (length s.waiting) sp.waiting) _ (ChildrenFull at) t h in
    let b = ok_if (ltb (length s.links + length s.waiting) sp.links) (Ok (with_child f fs v s)) (ChildrenFull at) t a.1 in
    let x = ltb-true _ _ a.0 in let y = ltb-true _ _ b.0 in let l = length-append s.waiting (v ∷ []) in
    rw (adding_ok (f ∷ fs) sp at v s t is h) (record {
      nodes = w.nodes;
      text = w.text;
      anchors = w.anchors;
      links = omega (arith, y, l);
      waits = omega (arith, x, l);
      opens = omega (arith, ap length is, w.opens);
    })

within_node : (sp : Spaces) (k : NodeKind) (m : Marked) (s t : St) → Within sp s → node_step sp k m s ≡ Ok t → Within sp t
within_node sp k m s t w h =
    let a = ok_next (noding sp k m s) (naming_adding sp m) t h in
    let b = ok_next (registering m.event.anchor sp m.start a.0) (adding_newest sp m.start) t a.2 in
    within_adding b.0.frames sp m.start (length b.0.nodes) b.0 t refl
    (within_registering m.event.anchor sp m.start a.0 b.0 (within_noding sp k m s a.0 w a.1) b.1) b.2

within_start : (sp : Spaces) (k : NodeKind) (m : Marked) (s t : St) → Within sp s → start_step sp k m s ≡ Ok t → Within sp t
within_start sp k m s t w h =
    let a = ok_next (node_step sp k m s) (opening k m.start) t h in
    let u = within_node sp k m s a.0 w a.1 in
    let x = ltb-true _ _ (ok_if (ltb (length a.0.frames) 256) _ (TooDeep m.start) t a.2).0 in
    rw (opening_ok k m.start a.0 t a.2) (record { nodes = u.nodes; text = u.text; anchors = u.anchors; links = u.links; waits = u.waits; opens = omega (arith, x) })

within_alias : (o : Option ℕ) (sp : Spaces) (at : Mark) (s t : St) → Within sp s → alias_of o sp at s ≡ Ok t → Within sp t
within_alias None sp at s t w h = cc
within_alias (Some v) sp at s t w h = within_adding s.frames sp at v s t refl w h

linked_length : (vs : List Node) (n : ℕ) (o : Option Node) (first count : ℕ) (stop : Mark) → length (linked_at vs n o first count stop) ≡ length vs
linked_length vs n None first count stop = refl
linked_length vs n (Some v) first count stop = length-set vs (n - 1) _

within_closing : (fs : List Frame) (sp : Spaces) (stop : Mark) (s t : St) → s.frames ≡ fs → Within sp s → closing fs stop s ≡ Ok t → Within sp t
within_closing [] sp stop s t is w h = let e : s ≡ t = cc in subst (Within sp) e w
within_closing (f ∷ fs) sp stop s t is w h =
    let e : closed_by f fs stop s ≡ t = cc in
    let n : ℕ = length s.waiting - f.children in
    let a = length-append s.links (drop n s.waiting) in let b = length-drop n s.waiting in let c = length-take n s.waiting in
    subst (Within sp) e (record {
      nodes = omega (arith, w.nodes, linked_length s.nodes f.node (numbered s.nodes f.node) (length s.links) f.children stop);
      text = w.text;
      anchors = w.anchors;
      links = omega (arith, w.links, a, b, c);
      waits = omega (arith, w.waits, c);
      opens = omega (arith, ap length is, w.opens);
    })

by_kind : (k : EventKind) (sp : Spaces) (m : Marked) (s t : St) → Within sp s → taken k sp m s ≡ Ok t → Within sp t
by_kind StreamStart sp m s t w h = let e : s ≡ t = cc in subst (Within sp) e w
by_kind StreamEnd sp m s t w h = let e : s ≡ t = cc in subst (Within sp) e w
by_kind DocumentStart sp m s t w h = let e : s ≡ t = cc in subst (Within sp) e w
by_kind DocumentEnd sp m s t w h = let e : s ≡ t = cc in subst (Within sp) e w
by_kind Alias sp m s t w h = within_alias (found s.anchors m.event.anchor) sp m.start s t w h
by_kind ScalarEvent sp m s t w h = within_node sp Scalar m s t w h
by_kind SequenceStart sp m s t w h = within_start sp Sequence m s t w h
by_kind SequenceEnd sp m s t w h = within_closing s.frames sp m.end s t refl w h
by_kind MappingStart sp m s t w h = within_start sp Mapping m s t w h
by_kind MappingEnd sp m s t w h = within_closing s.frames sp m.end s t refl w h

pub step_within : StepWithin
step_within sp m s t w h = by_kind m.event.kind sp m s t w (ok_if (in_turn m.event.kind s) (taken m.event.kind sp m s) (NotInTurn m.start) t h).1

pub blank_within : (sp : Spaces) → Within sp blank
blank_within sp = record { nodes = omega arith; text = omega arith; anchors = omega arith; links = omega arith; waits = omega arith; opens = omega arith }

pub within_fits : (sp : Spaces) (s : St) → Tidy s → Within sp s → Fits sp (composed_of s)
within_fits sp s t w =
    let z = sizes s t in let r = root_few s.nodes in
    record {
      nodes = omega (arith, z.nodes, w.nodes);
      text = omega (arith, z.text, w.text);
      names = omega (arith, z.names, w.anchors);
      links = omega (arith, z.links, w.links);
      waits = omega (arith, z.waits, w.waits);
      opens = omega (arith, z.opens, w.opens);
    }
