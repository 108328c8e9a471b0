-- Each step that is taken is a step of composing.
use Rattle.std.proofs.Common.{◌≡◌, ℕ, suc, ◌+◌, true, ltb, leb, List, [], ◌∷◌, ◌++◌, length, Some, None, Ok, Option, sym, refl, ap, ◌∙◌, subst, ap₂, arith}
use Rattle.std.proofs.lemmas.List.{length-append, length-map}
use Rattle.model.specs.declared.EventKind.TheVariants.{Scalar as ScalarEvent}
use Rattle.model.specs.declared.NodeKind.{NodeKind}
use Rattle.model.specs.declared.NodeKind.TheVariants.{Scalar, Sequence, Mapping}
use Rattle.model.specs.declared.Mark.{Mark}
use Rattle.model.specs.Events.{Ev}
use Rattle.model.specs.Reading.{Marked}
use Rattle.document.specs.declared.node.Node.{Node}
use Rattle.document.specs.Books.{vertex_of, graph_of}
use Rattle.serial.specs.Walk.{is_collection}
use Rattle.serial.specs.Serialize.{start_kind}
use Rattle.serial.specs.Compose.{Frame as OpenOne}
use Rattle.serial.specs.Compose.{frame, Takes, resolved, look_of, bare_vertex, noted, fresh, scalar, start}
use Rattle.composer.specs.declared.frames.Frame.{Frame}
use Rattle.composer.specs.declared.refusal.Refusal.TheVariants.{NodesFull, TextFull, AnchorsFull, ChildrenFull, TooDeep}
use Rattle.composer.specs.Names.{found, entry_of}
use Rattle.composer.specs.State.{St, Spaces}
use Rattle.composer.specs.Steps.{takes_child, adding_to, value_for, node_from, with_node, noding, with_anchor, naming_by, registering, adding_newest, naming_adding, node_step, is_mapping, with_frame, opened, opening, start_step, with_child, kind_number}
use Rattle.loads.specs.Tidy.{root_of, open_ones_of, names_of, composed_of, Tidy, collection_kind}
use Rattle.loads.specs.Stepping.{TakenIn}
use Rattle.loads.proofs.Parts.{new_look}
use Rattle.loads.proofs.Making.{root_push, tidy_node, graph_node, named_anchors, named_as, NewName, tidy_named, names_named, fresh_named, added_frames, added_waiting, added_to, tidy_added, received, tidy_opened, open_opened, open_push, open_added}
use Rattle.loads.proofs.Ways.{ok_if, ok_next}

-- the parts
abbrev pub makes : NodeKind → Marked → St → St
makes k m s =
    with_node (node_from k m.event.style (length s.text) (length (resolved k m.event.tag)) (length (value_for k m.event.value)) m.start m.end)
    (resolved k m.event.tag ++ value_for k m.event.value) s

pub noding_ok : (sp : Spaces) (k : NodeKind) (m : Marked) (s t : St) → noding sp k m s ≡ Ok t → t ≡ makes k m s
noding_ok sp k m s t h =
    let a = ok_if (ltb (length s.nodes) sp.nodes) _ (NodesFull m.start) t h in
    let b = ok_if (leb (length s.text + (length (resolved k m.event.tag) + length (value_for k m.event.value))) sp.text) _ (TextFull m.start) t a.1 in
    let e = b.1 in cc

pub naming_ok : (o : Option ℕ) (sp : Spaces) (at : Mark) (bytes : List ℕ) (s t : St) → naming_by o sp at bytes s ≡ Ok t
    → (o ≡ None) × (t ≡ with_anchor (entry_of bytes (length s.nodes)) s)
naming_ok None sp at bytes s t h = let e = (ok_if (ltb (length s.anchors) sp.anchors) _ (AnchorsFull at) t h).1 in (refl, (cc))
naming_ok (Some v) sp at bytes s t h = cc

pub registering_ok : (bytes : List ℕ) (sp : Spaces) (at : Mark) (s t : St) → registering bytes sp at s ≡ Ok t → NewName bytes s.anchors × (t ≡ named_as bytes s)
registering_ok [] sp at s t h = (tt, (cc))
registering_ok (b ∷ bs) sp at s t h = naming_ok (found s.anchors (b ∷ bs)) sp at (b ∷ bs) s t h

pub adding_ok : (fs : List Frame) (sp : Spaces) (at : Mark) (v : ℕ) (s t : St) → s.frames ≡ fs → adding_to fs sp at v s ≡ Ok t → t ≡ added_to fs v s
adding_ok [] sp at v s t e h = let q : t ≡ s = cc in q ∙ (λ i. record { nodes = s.nodes; links = s.links; text = s.text; anchors = s.anchors; waiting = s.waiting; frames = e i })
adding_ok (f ∷ fs) sp at v s t e h =
    let a = ok_if (ltb (length s.waiting) sp.waiting) _ (ChildrenFull at) t h in
    let b = ok_if (ltb (length s.links + length s.waiting) sp.links) (Ok (with_child f fs v s)) (ChildrenFull at) t a.1 in
    let q = b.1 in cc

-- a whole node
abbrev pub after_node : NodeKind → Marked → St → St
after_node k m s = added_to s.frames (length (makes k m s).nodes) (named_as m.event.anchor (makes k m s))

pub node_ok : (sp : Spaces) (k : NodeKind) (m : Marked) (s t : St) → node_step sp k m s ≡ Ok t → NewName m.event.anchor s.anchors × (t ≡ after_node k m s)
node_ok sp k m s t h =
    let a = ok_next (noding sp k m s) (naming_adding sp m) t h in
    let b = ok_next (registering m.event.anchor sp m.start a.0) (adding_newest sp m.start) t a.2 in
    let made = noding_ok sp k m s a.0 a.1 in
    let named = registering_ok m.event.anchor sp m.start a.0 b.0 b.1 in
    let w : St = b.0 in (
      subst (λ u. NewName m.event.anchor u.anchors) made named.0,
      adding_ok w.frames sp m.start (length w.nodes) w t refl b.2
          ∙ ap (λ u. added_to u.frames (length u.nodes) u) (named.1 ∙ ap (named_as m.event.anchor) made),
    )

pub value_told : (k : NodeKind) (value : List ℕ) → (is_collection k ≡ true → value ≡ []) → value_for k value ≡ value
value_told Scalar value h = refl
value_told Sequence value h = sym (h refl)
value_told Mapping value h = sym (h refl)

-- what a node's event leads to
pub record NodeTaken (k : NodeKind) (m : Marked) (s t : St) : Type 0 where
  pub tidy : Tidy t
  pub to : ℕ
  pub children : List ℕ
  pub others : List OpenOne
  pub was : (composed_of s).open_ones ≡ frame to children ∷ others
  pub takes : Takes to children
  pub new : fresh m.event.anchor (composed_of s).names
  pub stands : composed_of t ≡ record {
    nodes = (composed_of s).nodes ++ bare_vertex (look_of k m.event) ∷ [];
    names = noted m.event.anchor (suc (length (composed_of s).nodes)) (composed_of s).names;
    open_ones = frame to (children ++ suc (length (composed_of s).nodes) ∷ []) ∷ others;
  }

pub node_taken : (k : NodeKind) (m : Marked) (s : St) → (is_collection k ≡ true → m.event.value ≡ []) → takes_child s.frames s.nodes ≡ true
    → NewName m.event.anchor s.anchors → Tidy s → NodeTaken k m s (after_node k m s)
node_taken k m s bare turn new t =
    let e : Ev = m.event in
    let u : St = makes k m s in
    let tag : List ℕ = resolved k e.tag in
    let made : Tidy u = tidy_node k e.style tag e.value m.start m.end s t in
    let n : ℕ = length u.nodes in
    let v : Node = node_from k e.style (length s.text) (length tag) (length (value_for k e.value)) m.start m.end in
    let pushed : n ≡ length s.nodes + 1 = length-append s.nodes (v ∷ []) in
    let is : n ≡ suc (length (composed_of s).nodes) = omega (arith, length-map s.nodes (vertex_of s.links s.text)) in
    let r = received s.frames s.nodes s.waiting n turn t.opens (λ none. omega (arith, ap length none)) in
    let names : names_of (named_anchors e.anchor n s.anchors) ≡ noted e.anchor (suc (length (composed_of s).nodes)) (names_of s.anchors)
    = names_named e.anchor n s.anchors ∙ ap (λ i. noted e.anchor i (names_of s.anchors)) is in
    let nodes : graph_of u.nodes u.links u.text ≡ (composed_of s).nodes ++ bare_vertex (look_of k e) ∷ []
    = graph_node k e.style tag e.value m.start m.end s t
    ∙ ap (λ x. (composed_of s).nodes ++ bare_vertex (new_look k e.style tag x) ∷ []) (value_told k e.value bare) in
    let opens : open_ones_of (added_frames s.frames) (root_of u.nodes) (added_waiting s.frames n s.waiting) ≡ frame r.to (r.children ++ suc (length (composed_of s).nodes) ∷ []) ∷ r.others
    = ap (λ l. open_ones_of (added_frames s.frames) l (added_waiting s.frames n s.waiting)) (root_push s.nodes v)
    ∙ r.after ∙ ap (λ i. frame r.to (r.children ++ i ∷ []) ∷ r.others) is in
    record {
      tidy = tidy_added s.frames n (named_as e.anchor u) made.opens (tidy_named e.anchor u (omega arith) new made);
      to = r.to;
      children = r.children;
      others = r.others;
      was = r.before;
      takes = r.takes;
      new = fresh_named e.anchor s new t;
      stands = λ i. record { nodes = nodes i; names = names i; open_ones = opens i };
    }

pub scalar_step : (sp : Spaces) (m : Marked) (s t : St) → m.event.kind ≡ ScalarEvent → takes_child s.frames s.nodes ≡ true → Tidy s → node_step sp Scalar m s ≡ Ok t → TakenIn m s t
scalar_step sp m s t kind turn tidy h =
    let a = node_ok sp Scalar m s t h in
    let r = node_taken Scalar m s (λ c. cc) turn a.0 tidy in
    rw a.1 (record { tidy = r.tidy; taken = scalar kind r.was r.takes r.new r.stands })

pub opening_ok : (k : NodeKind) (at : Mark) (s t : St) → opening k at s ≡ Ok t → t ≡ with_frame (opened (is_mapping k) (length s.nodes)) s
opening_ok k at s t h = let e = (ok_if (ltb (length s.frames) 256) _ (TooDeep at) t h).1 in cc

mapping_kind : (k : NodeKind) → is_collection k ≡ true → kind_number k ≡ kind_number (collection_kind (is_mapping k))
mapping_kind Scalar c = cc
mapping_kind Sequence c = refl
mapping_kind Mapping c = refl

pub start_step_lem : (sp : Spaces) (k : NodeKind) (m : Marked) (s t : St) → is_collection k ≡ true → m.event.kind ≡ start_kind k → m.event.value ≡ []
    → takes_child s.frames s.nodes ≡ true → Tidy s → start_step sp k m s ≡ Ok t → TakenIn m s t
start_step_lem sp k m s t collection kind bare turn tidy h =
    let b = ok_next (node_step sp k m s) (opening k m.start) t h in
    let a = node_ok sp k m s b.0 b.1 in
    let r = node_taken k m s (λ c. bare) turn a.0 tidy in
    let u : St = after_node k m s in
    let is : t ≡ with_frame (opened (is_mapping k) (length u.nodes)) u = opening_ok k m.start b.0 t b.2 ∙ ap (λ w. with_frame (opened (is_mapping k) (length w.nodes)) w) a.1 in
    let v : Node = node_from k m.event.style (length s.text) (length (resolved k m.event.tag)) (length (value_for k m.event.value)) m.start m.end in
    let n : length u.nodes ≡ suc (length (composed_of s).nodes) = length-append s.nodes (v ∷ []) ∙ omega (arith, length-map s.nodes (vertex_of s.links s.text)) in
    let opens : open_ones_of (opened (is_mapping k) (length u.nodes) ∷ u.frames) (root_of u.nodes) u.waiting
    ≡ frame (suc (length (composed_of s).nodes)) [] ∷ (frame r.to (r.children ++ suc (length (composed_of s).nodes) ∷ []) ∷ r.others)
    = open_opened (length u.nodes) (is_mapping k) u.frames (root_of u.nodes) u.waiting ∙ ap₂ (λ i l. frame i [] ∷ l) n (ap (λ c. c.open_ones) r.stands) in
    rw is (record {
      tidy = tidy_opened (is_mapping k) u s.nodes v refl (mapping_kind k collection) refl
          (open_added u.nodes (length s.nodes) s.frames (length (makes k m s).nodes) s.waiting (open_push s.nodes (length s.nodes) v s.frames s.waiting tidy.opens)) r.tidy;
      taken = start k collection kind r.was r.takes r.new (λ i. record { nodes = (r.stands i).nodes; names = (r.stands i).names; open_ones = opens i });
    })
