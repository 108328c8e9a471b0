-- What composing takes in, with space for what comes of it, is accepted.
use Rattle.std.proofs.Common.{◌≡◌, ℕ, suc, ◌+◌, ◌%◌, ◌<◌, ◌≤◌, Bool, true, false, cond, not, eqb, ltb, leb, List, [], ◌∷◌, ◌++◌, length, Some, Ok, Err, sym, refl, ap, ◌∙◌, subst, arith}
use Rattle.std.proofs.lemmas.List.{length-append}
use Rattle.std.proofs.lemmas.Bool.{lt-ltb, le-leb, eq-eqb, cond-true, and_from}
use Rattle.model.specs.declared.EventKind.{EventKind}
use Rattle.model.specs.declared.EventKind.TheVariants.{Alias, Scalar as ScalarEvent, SequenceStart, SequenceEnd, MappingStart, MappingEnd}
use Rattle.model.specs.declared.NodeKind.{NodeKind}
use Rattle.model.specs.declared.NodeKind.TheVariants.{Scalar, Sequence, Mapping}
use Rattle.model.specs.declared.Mark.{Mark}
use Rattle.model.specs.Events.{allowed}
use Rattle.model.specs.Graph.{Vertex, nth, numbered}
use Rattle.model.specs.Reading.{Marked}
use Rattle.document.specs.declared.node.Node.{Node}
use Rattle.document.specs.Books.{kind_of, vertex_of}
use Rattle.serial.specs.Walk.{is_collection}
use Rattle.serial.specs.Serialize.{start_kind, end_kind}
use Rattle.serial.specs.Compose.{Frame as OpenOne}
use Rattle.serial.specs.Compose.{frame, Composed, Takes, Complete, fresh, resolved, look_of, bare_vertex, noted, TakesIn, alias, scalar, start, end}
use Rattle.serial.specs.Stocks.{all_links, all_text, waiting, stock}
use Rattle.serial.proofs.Unique.{one_way}
use Rattle.composer.specs.declared.anchor.Anchor.{Anchor}
use Rattle.composer.specs.declared.frames.Frame.{Frame}
use Rattle.composer.specs.declared.refusal.Refusal.TheVariants.{NotInTurn}
use Rattle.composer.specs.State.{St, Spaces}
use Rattle.composer.specs.Steps.{next, takes_child, ends_sequence, ends_mapping, in_turn, adding_to, alias_of, value_for, noding, naming_by, registering, adding_newest, naming_adding, node_step, is_mapping, with_frame, opened, opening, start_step, closing, closed_by, taken, taking}
use Rattle.loader.specs.Loading.{is_document_end}
use Rattle.loads.specs.Tidy.{root_of, last_of, open_ones_of, names_of, composed_of, AllOpen, Tidy, collection_kind}
use Rattle.loads.specs.Room.{Fits, Accepted, StepAccepted}
use Rattle.loads.proofs.Parts.{kind_back, last_length}
use Rattle.serial.proofs.Composing.{one_vertex}
use Rattle.loads.proofs.Making.{root_some, named_as, NewName, added_frames, added_to}
use Rattle.loads.proofs.Stepping.{makes, after_node, value_told}
use Rattle.loads.proofs.Closing.{nth_map}
use Rattle.loads.proofs.Steps.{step_composes}
use Rattle.loads.proofs.Events.{no_value}
use Rattle.loads.proofs.Sizes.{Sizes, sizes, text_more, links_same}

-- in turn
pub turn_back : (fs : List Frame) (nodes : List Node) (wait : List ℕ) {u : ℕ} {children : List ℕ} {others : List OpenOne}
    → open_ones_of fs (root_of nodes) wait ≡ frame u children ∷ others → Takes u children → takes_child fs nodes ≡ true
turn_back [] [] wait is takes = refl
turn_back [] (v ∷ nodes) wait {u = u} {children = ks} is takes =
    let a : u ≡ 0 = cc in let b : ks ≡ 1 ∷ [] = cc in
    let c : ks ≡ [] = subst (λ n. Takes n ks) a takes in
    cc
turn_back (f ∷ fs) nodes wait is takes = refl

-- a child
abbrev pub ChildRoom : List Frame → Spaces → List ℕ → List ℕ → Type 0
ChildRoom [] sp links wait = Unit {0}
ChildRoom (f ∷ fs) sp links wait = (length wait < sp.waiting) × (length links + length wait < sp.links)

child_room : (fs : List Frame) (sp : Spaces) (s : St) → AllOpen s.nodes (length s.nodes) fs s.waiting → Sizes s
    → waiting (composed_of s).open_ones ≤ sp.waiting → stock (composed_of s) ≤ sp.links → ChildRoom fs sp s.links s.waiting
child_room [] sp s o z a b = tt
child_room (f ∷ fs) sp s o z a b =
    let r = ap length (root_some s.nodes o.0.place o.0.node o.0.here) in
    (omega (arith, r, z.waits), omega (arith, r, z.links))

pub adding_back : (fs : List Frame) (sp : Spaces) (at : Mark) (v : ℕ) (s : St) → s.frames ≡ fs → ChildRoom fs sp s.links s.waiting → adding_to fs sp at v s ≡ Ok (added_to fs v s)
adding_back [] sp at v s e room = λ i. Ok (record { nodes = s.nodes; links = s.links; text = s.text; anchors = s.anchors; waiting = s.waiting; frames = e i })
adding_back (f ∷ fs) sp at v s e room =
    cond-true (ltb (length s.waiting) sp.waiting) _ _ (lt-ltb _ _ room.0)
    ∙ cond-true (ltb (length s.links + length s.waiting) sp.links) _ _ (lt-ltb _ _ room.1)

-- a name
abbrev pub NameRoom : List ℕ → Spaces → List Anchor → Type 0
NameRoom [] sp anchors = Unit {0}
NameRoom (b ∷ bs) sp anchors = length anchors < sp.anchors

pub registering_back : (bytes : List ℕ) (sp : Spaces) (at : Mark) (s : St) → NewName bytes s.anchors → NameRoom bytes sp s.anchors → registering bytes sp at s ≡ Ok (named_as bytes s)
registering_back [] sp at s new room = refl
registering_back (b ∷ bs) sp at s new room =
    ap (λ o. naming_by o sp at (b ∷ bs) s) new ∙ cond-true (ltb (length s.anchors) sp.anchors) _ _ (lt-ltb _ _ room)

new_back : (bytes : List ℕ) (s : St) → Tidy s → fresh bytes (names_of s.anchors) → NewName bytes s.anchors
new_back [] s t new = tt
new_back (b ∷ bs) s t new = t.names (b ∷ bs) ∙ new

name_room : (bytes : List ℕ) (sp : Spaces) (n : ℕ) (s : St) → Sizes s → length (noted bytes n (composed_of s).names) ≤ sp.anchors → NameRoom bytes sp s.anchors
name_room [] sp n s z h = tt
name_room (b ∷ bs) sp n s z h = omega (arith, z.names)

-- a node
pub noding_back : (sp : Spaces) (k : NodeKind) (m : Marked) (s : St) → length s.nodes < sp.nodes
    → length s.text + (length (resolved k m.event.tag) + length (value_for k m.event.value)) ≤ sp.text → noding sp k m s ≡ Ok (makes k m s)
noding_back sp k m s a b =
    cond-true (ltb (length s.nodes) sp.nodes) _ _ (lt-ltb _ _ a)
    ∙ cond-true (leb (length s.text + (length (resolved k m.event.tag) + length (value_for k m.event.value))) sp.text) _ _ (le-leb _ _ b)

-- what a node's event wants
pub record NodeRoom (sp : Spaces) (k : NodeKind) (m : Marked) (s : St) : Type 0 where
  pub nodes : length s.nodes < sp.nodes
  pub text : length s.text + (length (resolved k m.event.tag) + length (value_for k m.event.value)) ≤ sp.text
  pub new : NewName m.event.anchor s.anchors
  pub name : NameRoom m.event.anchor sp s.anchors
  pub child : ChildRoom s.frames sp s.links s.waiting

pub node_back : (sp : Spaces) (k : NodeKind) (m : Marked) (s : St) → NodeRoom sp k m s → node_step sp k m s ≡ Ok (after_node k m s)
node_back sp k m s r =
    ap (λ q. next q (naming_adding sp m)) (noding_back sp k m s r.nodes r.text)
    ∙ ap (λ q. next q (adding_newest sp m.start)) (registering_back m.event.anchor sp m.start (makes k m s) r.new r.name)
    ∙ adding_back s.frames sp m.start (length (makes k m s).nodes) (named_as m.event.anchor (makes k m s)) refl r.child

node_room : (sp : Spaces) (k : NodeKind) (m : Marked) (s : St) (c : Composed) {u : ℕ} {children : List ℕ} {others : List OpenOne} → Tidy s → (is_collection k ≡ true → m.event.value ≡ [])
    → (composed_of s).open_ones ≡ frame u children ∷ others → fresh m.event.anchor (composed_of s).names
    → c.nodes ≡ (composed_of s).nodes ++ bare_vertex (look_of k m.event) ∷ [] → c.names ≡ noted m.event.anchor (suc (length (composed_of s).nodes)) (composed_of s).names
    → waiting c.open_ones ≡ length (children ++ suc (length (composed_of s).nodes) ∷ []) + waiting others → Fits sp c → NodeRoom sp k m s
node_room sp k m s c {children = ks} {others = others} t bare was new nodes names opens fits =
    let z = sizes s t in
    let l = look_of k m.event in
    let a = ap length nodes ∙ length-append (composed_of s).nodes (bare_vertex l ∷ []) in
    let x = ap all_text nodes ∙ text_more (composed_of s).nodes l in
    let y = ap all_links nodes ∙ links_same (composed_of s).nodes l in
    let v = ap length (value_told k m.event.value bare) in
    let w = ap waiting was in
    let kids = length-append ks (suc (length (composed_of s).nodes) ∷ []) in
    record {
      nodes = omega (arith, a, z.nodes, fits.nodes);
      text = omega (arith, x, z.text, v, fits.text);
      new = new_back m.event.anchor s t new;
      name = name_room m.event.anchor sp (suc (length (composed_of s).nodes)) s z (subst (λ ns. length ns ≤ sp.anchors) names fits.names);
      child = child_room s.frames sp s t.opens z (omega (arith, w, opens, kids, fits.waits)) (omega (arith, w, opens, kids, y, fits.links));
    }

-- in turn and accepted by its kind
pub by_turn : (k : EventKind) (sp : Spaces) (m : Marked) (s t : St) → m.event.kind ≡ k → in_turn k s ≡ true → taken k sp m s ≡ Ok t → taking sp m s ≡ Ok t
by_turn k sp m s t is turn h =
    ap (λ q. cond (in_turn q s) (taken q sp m s) (Err (NotInTurn m.start))) is ∙ cond-true (in_turn k s) (taken k sp m s) (Err (NotInTurn m.start)) turn ∙ h

-- accepted, and then it is what composing comes to
accepted : (sp : Spaces) (m : Marked) (s t : St) (c : Composed) → allowed m.event ≡ true → is_document_end m.event.kind ≡ false → Tidy s → TakesIn (composed_of s) m.event c
    → taking sp m s ≡ Ok t → Accepted sp m s c
accepted sp m s t c ok other tidy taken h =
    let r = step_composes sp m s t ok other tidy h in
    record { to = t; taken = h; stands = one_way r.taken taken; tidy = r.tidy }

pub no_end_start : (k : NodeKind) (e : EventKind) → e ≡ start_kind k → is_document_end e ≡ false
no_end_start Scalar e h = ap is_document_end h
no_end_start Sequence e h = ap is_document_end h
no_end_start Mapping e h = ap is_document_end h

pub no_end_end : (k : NodeKind) (e : EventKind) → is_collection k ≡ true → e ≡ end_kind k → is_document_end e ≡ false
no_end_end Scalar e c h = ap is_document_end h
no_end_end Sequence e c h = ap is_document_end h
no_end_end Mapping e c h = ap is_document_end h

pub added_length : (fs : List Frame) → length (added_frames fs) ≡ length fs
added_length [] = refl
added_length (f ∷ fs) = refl

start_back : (sp : Spaces) (k : NodeKind) (m : Marked) (s : St) → NodeRoom sp k m s → length s.frames < 256 → start_step sp k m s ≡ Ok (with_frame (opened (is_mapping k) (length (after_node k m s).nodes)) (after_node k m s))
start_back sp k m s r few =
    ap (λ q. next q (opening k m.start)) (node_back sp k m s r)
    ∙ cond-true (ltb (length (added_frames s.frames)) 256) _ _ (lt-ltb _ _ (omega (arith, added_length s.frames)))

start_turn : (k : NodeKind) (sp : Spaces) (m : Marked) (s t : St) → is_collection k ≡ true → m.event.kind ≡ start_kind k → takes_child s.frames s.nodes ≡ true → start_step sp k m s ≡ Ok t → taking sp m s ≡ Ok t
start_turn Scalar sp m s t c is turn h = cc
start_turn Sequence sp m s t c is turn h = by_turn SequenceStart sp m s t is turn h
start_turn Mapping sp m s t c is turn h = by_turn MappingStart sp m s t is turn h

-- the end of a collection
end_turn : (b : Bool) (f : Frame) (fs : List Frame) (sp : Spaces) (m : Marked) (s : St) → s.frames ≡ f ∷ fs → f.mapping ≡ b → m.event.kind ≡ end_kind (collection_kind b)
    → (b ≡ true → f.children % 2 ≡ 0) → taking sp m s ≡ Ok (closed_by f fs m.end s)
end_turn false f fs sp m s is fm kind even =
    by_turn SequenceEnd sp m s (closed_by f fs m.end s) kind (ap ends_sequence is ∙ ap not fm) (ap (λ l. closing l m.end s) is)
end_turn true f fs sp m s is fm kind even =
    by_turn MappingEnd sp m s (closed_by f fs m.end s) kind
    (ap ends_mapping is ∙ and_from f.mapping (eqb (f.children % 2) 0) fm (eq-eqb (f.children % 2) 0 (even refl)))
    (ap (λ l. closing l m.end s) is)

even_of : (b : Bool) (ks : List ℕ) → Complete (collection_kind b) ks → b ≡ true → length ks % 2 ≡ 0
even_of false ks c h = cc
even_of true ks c h = c

pub end_back : (fs : List Frame) (sp : Spaces) (m : Marked) (s : St) {v : ℕ} {children : List ℕ} {others : List OpenOne} {x : Vertex}
    → s.frames ≡ fs → AllOpen s.nodes (length s.nodes) fs s.waiting → open_ones_of fs (root_of s.nodes) s.waiting ≡ frame (suc v) children ∷ others
    → numbered (composed_of s).nodes (suc v) ≡ Some x → m.event.kind ≡ end_kind x.look.kind → Complete x.look.kind children → (t : St) × (taking sp m s ≡ Ok t)
end_back [] sp m s is o was here kind whole = cc
end_back (f ∷ fs) sp m s {v = v} {children = ks} {x = x} is o was here kind whole =
    let n : f.node ≡ suc v = cc in
    let kids : last_of f.children s.waiting ≡ ks = cc in
    let p : o.0.place ≡ v = omega (arith, o.0.number) in
    let y : Vertex = vertex_of s.links s.text o.0.node in
    let there : nth (composed_of s).nodes v ≡ Some y = ap (nth (composed_of s).nodes) (sym p) ∙ nth_map (vertex_of s.links s.text) s.nodes o.0.place o.0.node o.0.here in
    let same : x ≡ y = one_vertex (nth (composed_of s).nodes v) x y here there in
    let k : x.look.kind ≡ collection_kind f.mapping = ap (λ q. q.look.kind) same ∙ ap kind_of o.0.kind ∙ kind_back (collection_kind f.mapping) in
    let count : length ks ≡ f.children = ap length (sym kids) ∙ last_length f.children s.waiting o.1 in (
      closed_by f fs m.end s,
      end_turn f.mapping f fs sp m s is refl (kind ∙ ap end_kind k)
          (λ b. ap (λ q. q % 2) (sym count) ∙ even_of f.mapping ks (subst (λ q. Complete q ks) k whole) b),
    )

pub step_accepted : StepAccepted
step_accepted sp m s c ok tidy (alias {u = u} {v = v} {children = ks} {frames = others} kind was takes known is) fits =
    let z = sizes s tidy in
    let turn = turn_back s.frames s.nodes s.waiting was takes in
    let w = ap waiting was in
    let x = ap (λ q. waiting q.open_ones) is in
    let y = ap stock is in
    let kids = length-append ks (v ∷ []) in
    let room = child_room s.frames sp s tidy.opens z (omega (arith, w, x, kids, fits.waits)) (omega (arith, w, y, kids, fits.links)) in
    accepted sp m s (added_to s.frames v s) c ok (ap is_document_end kind) tidy (alias kind was takes known is)
    (by_turn Alias sp m s (added_to s.frames v s) kind turn
    (ap (λ q. alias_of q sp m.start s) (tidy.names m.event.anchor ∙ known) ∙ adding_back s.frames sp m.start v s refl room))
step_accepted sp m s c ok tidy (scalar {children = ks} {frames = others} kind was takes new is) fits =
    let r = node_room sp Scalar m s c {children = ks} {others = others} tidy (λ q. cc) was new
    (ap (λ q. q.nodes) is) (ap (λ q. q.names) is) (ap (λ q. waiting q.open_ones) is) fits in
    accepted sp m s (after_node Scalar m s) c ok (ap is_document_end kind) tidy (scalar kind was takes new is)
    (by_turn ScalarEvent sp m s (after_node Scalar m s) kind (turn_back s.frames s.nodes s.waiting was takes) (node_back sp Scalar m s r))
step_accepted sp m s c ok tidy (start {children = ks} {frames = others} k collection kind was takes new is) fits =
    let z = sizes s tidy in
    let opens : waiting c.open_ones ≡ length (ks ++ suc (length (composed_of s).nodes) ∷ []) + waiting others = ap (λ q. waiting q.open_ones) is ∙ omega arith in
    let r = node_room sp k m s c {children = ks} {others = others} tidy (λ q. no_value m.event k ok kind q) was new (ap (λ q. q.nodes) is) (ap (λ q. q.names) is) opens fits in
    let few : length s.frames < 256 = omega (arith, z.opens, ap length was, ap (λ q. length q.open_ones) is, fits.opens) in
    let t : St = with_frame (opened (is_mapping k) (length (after_node k m s).nodes)) (after_node k m s) in
    accepted sp m s t c ok (no_end_start k m.event.kind kind) tidy (start k collection kind was takes new is)
    (start_turn k sp m s t collection kind (turn_back s.frames s.nodes s.waiting was takes) (start_back sp k m s r few))
step_accepted sp m s c ok tidy (end {v = v} {children = ks} {frames = others} {x = x} was here collection kind whole is) fits =
    let r = end_back s.frames sp m s {v = v} {children = ks} {others = others} {x = x} refl tidy.opens was here kind whole in
    accepted sp m s r.0 c ok (no_end_end x.look.kind m.event.kind collection kind) tidy (end {x = x} was here collection kind whole is) r.1
