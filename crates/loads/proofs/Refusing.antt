-- Every refusal means what it says.
use Rattle.std.proofs.Common.{◌≡◌, ℕ, zero, suc, ◌+◌, ◌<◌, ◌≤◌, Bool, true, false, cond, ltb, leb, ◌≢◌, ◌⊎◌, List, [], ◌∷◌, ◌++◌, map, length, Some, None, Ok, Err, Option, Result, sym, refl, ap, ◌∙◌, subst, inl, inr, arith}
use Rattle.std.proofs.lemmas.Bool.{ltb-true, ltb-false, leb-true, leb-false, le-ltb, lt-ltb, lt-leb, cases_Bool, both_ways, cond-true, cond-false, and_parts}
use Rattle.model.specs.declared.EventKind.{EventKind}
use Rattle.model.specs.declared.EventKind.TheVariants.{StreamStart, StreamEnd, DocumentStart, DocumentEnd, Alias, Scalar as ScalarEvent, SequenceStart, SequenceEnd, MappingStart, MappingEnd}
use Rattle.model.specs.declared.NodeKind.{NodeKind}
use Rattle.model.specs.declared.NodeKind.TheVariants.{Scalar, Sequence, Mapping}
use Rattle.model.specs.declared.Mark.{Mark}
use Rattle.model.specs.declared.Fault.{Fault}
use Rattle.model.specs.Events.{Ev, allowed, all_allowed}
use Rattle.model.specs.Graph.{nth, numbered}
use Rattle.model.specs.Reading.{Marked, bare}
use Rattle.document.specs.declared.node.Node.{Node}
use Rattle.serial.specs.Walk.{is_collection}
use Rattle.serial.specs.Serialize.{start_kind}
use Rattle.serial.specs.Compose.{resolved, named}
use Rattle.composer.specs.declared.frames.Frame.{Frame}
use Rattle.composer.specs.declared.refusal.Refusal.{Refusal}
use Rattle.composer.specs.declared.refusal.Refusal.TheVariants.{NotInTurn, UnknownAlias, NodesFull, TextFull, AnchorAgain, AnchorsFull, ChildrenFull, TooDeep}
use Rattle.composer.specs.Names.{found, entry_of}
use Rattle.composer.specs.State.{St, blank, Spaces}
use Rattle.composer.specs.Steps.{next, in_turn, with_child, adding_to, alias_of, value_for, node_from, noding, start_of, with_anchor, naming_by, registering, adding_newest, naming_adding, node_step, is_mapping, with_frame, opened, opening, start_step, closing, taken, taking}
use Rattle.loader.specs.Loading.{is_document_end, missing, flowing, stepped, running}
use Rattle.loads.specs.Tidy.{composed_of, Tidy}
use Rattle.loads.specs.Runs.{Went, none, more}
use Rattle.loads.specs.Refusing.{InTurn, Gives, NamesNode, NodeSpace, NameSpace, ChildSpace, NoChildSpace, Why, not_in_turn, unknown_alias, alias_full, nodes_full, text_full, anchor_again, anchors_full, children_full, too_deep, StepRefused, RunRefused}
use Rattle.loads.proofs.Making.{named_as, NewName, added_frames}
use Rattle.loads.proofs.Ways.{ok_if, ok_next}
use Rattle.loads.proofs.Stepping.{makes, noding_ok, registering_ok, node_ok, value_told}
use Rattle.loads.proofs.Events.{no_value}
use Rattle.loads.proofs.Accepting.{ChildRoom, NameRoom, noding_back, registering_back, node_back, added_length}
use Rattle.loads.proofs.Turns.{turn_on, turn_off, child_off}
use Rattle.loads.proofs.Steps.{step_composes, blank_tidy}

err_if : (b : Bool) (x : Result St Refusal) (f e : Refusal) → cond b x (Err f) ≡ Err e → ((b ≡ false) × (e ≡ f)) ⊎ ((b ≡ true) × (x ≡ Err e))
err_if false x f e h = inl (refl, (cc))
err_if true x f e h = inr (refl, h)

err_next : (r : Result St Refusal) (f : St → Result St Refusal) (e : Refusal) → next r f ≡ Err e → (r ≡ Err e) ⊎ ((u : St) × (r ≡ Ok u) × (f u ≡ Err e))
err_next (Ok u) f e h = inr (u, refl, h)
err_next (Err q) f e h = inl h

never : (s : St) (e : Refusal) → Ok s ≡ Err e → ⊥
never s e h = cc

text_same : (k : NodeKind) (m : Marked) → allowed m.event ≡ true → m.event.kind ≡ start_kind k → length (value_for k m.event.value) ≡ length m.event.value
text_same k m ok is = ap length (value_told k m.event.value (no_value m.event k ok is))

nth_front : (xs ys : List Node) (i : ℕ) → i < length xs → nth (xs ++ ys) i ≡ nth xs i
nth_front [] ys i h = absurd (omega arith)
nth_front (x ∷ xs) ys zero h = refl
nth_front (x ∷ xs) ys (suc i) h = nth_front xs ys i (omega arith)

numbered_front : (xs ys : List Node) (v : ℕ) → v ≤ length xs → numbered (xs ++ ys) v ≡ numbered xs v
numbered_front xs ys zero h = refl
numbered_front xs ys (suc i) h = nth_front xs ys i h

-- from the parts that were passed
noding_space : (sp : Spaces) (k : NodeKind) (m : Marked) (s t : St) → length (value_for k m.event.value) ≡ length m.event.value → noding sp k m s ≡ Ok t → NodeSpace sp k m s
noding_space sp k m s t same h =
    let a = ok_if (ltb (length s.nodes) sp.nodes) _ (NodesFull m.start) t h in
    let b = ok_if (leb (length s.text + (length (resolved k m.event.tag) + length (value_for k m.event.value))) sp.text) _ (TextFull m.start) t a.1 in
    let x = leb-true _ _ b.0 in
    record { nodes = ltb-true _ _ a.0; text = omega (arith, x, same) }

naming_space : (o : Option ℕ) (sp : Spaces) (at : Mark) (bytes : List ℕ) (s t : St) → naming_by o sp at bytes s ≡ Ok t → (o ≡ None) × (length s.anchors < sp.anchors)
naming_space None sp at bytes s t h = (refl, ltb-true _ _ (ok_if (ltb (length s.anchors) sp.anchors) _ (AnchorsFull at) t h).0)
naming_space (Some v) sp at bytes s t h = absurd (never t (AnchorAgain at (start_of (numbered s.nodes v))) (sym h))

registering_space : (bytes : List ℕ) (sp : Spaces) (at : Mark) (s u t : St) → Tidy s → u.anchors ≡ s.anchors → registering bytes sp at u ≡ Ok t → NameSpace bytes sp s
registering_space [] sp at s u t tidy is h = tt
registering_space (b ∷ bs) sp at s u t tidy is h =
    let r = naming_space (found u.anchors (b ∷ bs)) sp at (b ∷ bs) u t h in
    (sym (tidy.names (b ∷ bs)) ∙ ap (λ l. found l (b ∷ bs)) (sym is) ∙ r.0, subst (λ l. length l < sp.anchors) is r.1)

adding_space : (fs : List Frame) (sp : Spaces) (at : Mark) (v : ℕ) (s u t : St) → u.waiting ≡ s.waiting → u.links ≡ s.links → adding_to fs sp at v u ≡ Ok t → ChildSpace fs sp s
adding_space [] sp at v s u t w l h = tt
adding_space (f ∷ fs) sp at v s u t w l h =
    let a = ok_if (ltb (length u.waiting) sp.waiting) _ (ChildrenFull at) t h in
    let b = ok_if (ltb (length u.links + length u.waiting) sp.links) (Ok (with_child f fs v u)) (ChildrenFull at) t a.1 in
    let x = ltb-true _ _ a.0 in let y = ltb-true _ _ b.0 in
    (omega (arith, x, ap length w), omega (arith, y, ap length w, ap length l))

-- from the part that was not
why_adding : (fs : List Frame) (sp : Spaces) (at : Mark) (v : ℕ) (s u : St) (e : Refusal) → u.waiting ≡ s.waiting → u.links ≡ s.links → adding_to fs sp at v u ≡ Err e → (e ≡ ChildrenFull at) × NoChildSpace fs sp s
why_adding [] sp at v s u e w l h = absurd (never u e h)
why_adding (f ∷ fs) sp at v s u e w l h = elim (err_if (ltb (length u.waiting) sp.waiting) _ (ChildrenFull at) e h) [
  | inl a ↦ let x = ltb-false _ _ a.0 in (a.1, inl (omega (arith, x, ap length w)))
  | inr a ↦ elim (err_if (ltb (length u.links + length u.waiting) sp.links) (Ok (with_child f fs v u)) (ChildrenFull at) e a.1) [
    | inl b ↦ let x = ltb-false _ _ b.0 in (b.1, inr (omega (arith, x, ap length w, ap length l)))
    | inr b ↦ absurd (never (with_child f fs v u) e b.1)
  ]
]

why_naming : (o : Option ℕ) (sp : Spaces) (k : NodeKind) (m : Marked) (s : St) (b : ℕ) (bs : List ℕ) (e : Refusal) → Tidy s → m.event.anchor ≡ b ∷ bs → found s.anchors (b ∷ bs) ≡ o
    → Gives k m s → NodeSpace sp k m s → naming_by o sp m.start (b ∷ bs) (makes k m s) ≡ Err e → Why sp m s e
why_naming None sp k m s b bs e tidy is f g n h =
    let none : m.event.anchor ≢ [] = λ q. cc in
    let new : named m.event.anchor (composed_of s).names ≡ None = ap (λ a. named a (composed_of s).names) is ∙ sym (tidy.names (b ∷ bs)) ∙ f in
    elim (err_if (ltb (length s.anchors) sp.anchors) _ (AnchorsFull m.start) e h) [
      | inl a ↦ anchors_full k a.1 g n none new (ltb-false _ _ a.0)
      | inr a ↦ absurd (never (with_anchor (entry_of (b ∷ bs) (length (makes k m s).nodes)) (makes k m s)) e a.1)
    ]
why_naming (Some v) sp k m s b bs e tidy is f g n h =
    let none : m.event.anchor ≢ [] = λ q. cc in
    let old : named m.event.anchor (composed_of s).names ≡ Some v = ap (λ a. named a (composed_of s).names) is ∙ sym (tidy.names (b ∷ bs)) ∙ f in
    let front = numbered_front s.nodes (node_from k m.event.style (length s.text) (length (resolved k m.event.tag)) (length (value_for k m.event.value)) m.start m.end ∷ []) v (tidy.known (b ∷ bs) v f).1 in
    let q : e ≡ AnchorAgain m.start (start_of (numbered (makes k m s).nodes v)) = cc in
    anchor_again k v (q ∙ ap (λ o. AnchorAgain m.start (start_of o)) front) g n none old

why_registering : (bytes : List ℕ) (sp : Spaces) (k : NodeKind) (m : Marked) (s : St) (e : Refusal) → Tidy s → m.event.anchor ≡ bytes
    → Gives k m s → NodeSpace sp k m s → registering bytes sp m.start (makes k m s) ≡ Err e → Why sp m s e
why_registering [] sp k m s e tidy is g n h = absurd (never (makes k m s) e h)
why_registering (b ∷ bs) sp k m s e tidy is g n h = why_naming (found s.anchors (b ∷ bs)) sp k m s b bs e tidy is refl g n h

why_noding : (sp : Spaces) (k : NodeKind) (m : Marked) (s : St) (e : Refusal) → length (value_for k m.event.value) ≡ length m.event.value → Gives k m s → noding sp k m s ≡ Err e → Why sp m s e
why_noding sp k m s e same g h = elim (err_if (ltb (length s.nodes) sp.nodes) _ (NodesFull m.start) e h) [
  | inl a ↦ nodes_full k a.1 g (ltb-false _ _ a.0)
  | inr a ↦ elim (err_if (leb (length s.text + (length (resolved k m.event.tag) + length (value_for k m.event.value))) sp.text) _ (TextFull m.start) e a.1) [
    | inl b ↦ let x = leb-false _ _ b.0 in text_full k b.1 g (ltb-true _ _ a.0) (omega (arith, x, same))
    | inr b ↦ absurd (never (makes k m s) e b.1)
  ]
]

module _ (sp : Spaces) (k : NodeKind) (m : Marked) (s : St) (e : Refusal) (ok : allowed m.event ≡ true) (tidy : Tidy s) (g : Gives k m s) where
  why_node : node_step sp k m s ≡ Err e → Why sp m s e
  why_node h =
      let same = text_same k m ok g.kind in
      elim (err_next (noding sp k m s) (naming_adding sp m) e h) [
        | inl a ↦ why_noding sp k m s e same g a
        | inr a ↦
            let is = noding_ok sp k m s a.0 a.1 in
            let n = noding_space sp k m s a.0 same a.1 in
            elim (err_next (registering m.event.anchor sp m.start a.0) (adding_newest sp m.start) e a.2) [
              | inl b ↦ why_registering m.event.anchor sp k m s e tidy refl g n (subst (λ u. registering m.event.anchor sp m.start u ≡ Err e) is b)
              | inr b ↦
                  let w : St = b.0 in
                  let as-named = (registering_ok m.event.anchor sp m.start a.0 w b.1).1 ∙ ap (named_as m.event.anchor) is in
                  let c = why_adding w.frames sp m.start (length w.nodes) s w e (ap (λ u. u.waiting) as-named) (ap (λ u. u.links) as-named) b.2 in
                  children_full k c.0 g n (registering_space m.event.anchor sp m.start s a.0 w tidy (ap (λ u. u.anchors) is) b.1)
                  (subst (λ l. NoChildSpace l sp s) (ap (λ u. u.frames) as-named) c.1)
            ]
      ]

  node_spaces : (t : St) → node_step sp k m s ≡ Ok t → NodeSpace sp k m s × NameSpace m.event.anchor sp s × ChildSpace s.frames sp s
  node_spaces t h =
      let same = text_same k m ok g.kind in
      let a = ok_next (noding sp k m s) (naming_adding sp m) t h in
      let is = noding_ok sp k m s a.0 a.1 in
      let b = ok_next (registering m.event.anchor sp m.start a.0) (adding_newest sp m.start) t a.2 in
      let w : St = b.0 in
      let as-named = (registering_ok m.event.anchor sp m.start a.0 w b.1).1 ∙ ap (named_as m.event.anchor) is in (
        noding_space sp k m s a.0 same a.1,
        registering_space m.event.anchor sp m.start s a.0 w tidy (ap (λ u. u.anchors) is) b.1,
        subst (λ l. ChildSpace l sp s) (ap (λ u. u.frames) as-named)
            (adding_space w.frames sp m.start (length w.nodes) s w t (ap (λ u. u.waiting) as-named) (ap (λ u. u.links) as-named) b.2),
      )

  why_start : is_collection k ≡ true → start_step sp k m s ≡ Err e → Why sp m s e
  why_start c h = elim (err_next (node_step sp k m s) (opening k m.start) e h) [
    | inl a ↦ why_node a
    | inr a ↦
        let p = node_spaces a.0 a.1 in
        let is = (node_ok sp k m s a.0 a.1).1 in
        elim (err_if (ltb (length a.0.frames) 256) _ (TooDeep m.start) e a.2) [
          | inl b ↦ let x = ltb-false _ _ b.0 in
              too_deep k b.1 c g p.0 p.1 p.2 (omega (arith, x, ap (λ u. length u.frames) is, added_length s.frames))
          | inr b ↦ absurd (never (with_frame (opened (is_mapping k) (length a.0.nodes)) a.0) e b.1)
        ]
  ]

why_alias : (o : Option ℕ) (sp : Spaces) (m : Marked) (s : St) (e : Refusal) → Tidy s → found s.anchors m.event.anchor ≡ o → NamesNode m s → alias_of o sp m.start s ≡ Err e → Why sp m s e
why_alias None sp m s e tidy f g h = let q : e ≡ UnknownAlias m.start = cc in unknown_alias q g (sym (tidy.names m.event.anchor) ∙ f)
why_alias (Some v) sp m s e tidy f g h =
    let c = why_adding s.frames sp m.start v s s e refl refl h in
    alias_full v c.0 g (sym (tidy.names m.event.anchor) ∙ f) c.1

why_closing : (fs : List Frame) (stop : Mark) (s : St) (e : Refusal) → closing fs stop s ≡ Err e → ⊥
why_closing [] stop s e h = never s e h
why_closing (f ∷ fs) stop s e h = cc

by_kind : (k : EventKind) (sp : Spaces) (m : Marked) (s : St) (e : Refusal) → m.event.kind ≡ k → allowed m.event ≡ true → Tidy s → InTurn k (composed_of s) m.event → taken k sp m s ≡ Err e → Why sp m s e
by_kind StreamStart sp m s e is ok tidy t h = absurd t
by_kind StreamEnd sp m s e is ok tidy t h = absurd t
by_kind DocumentStart sp m s e is ok tidy t h = absurd t
by_kind DocumentEnd sp m s e is ok tidy t h = absurd (never s e h)
by_kind Alias sp m s e is ok tidy t h = why_alias (found s.anchors m.event.anchor) sp m s e tidy refl (record { kind = is; turn = t }) h
by_kind ScalarEvent sp m s e is ok tidy t h = why_node sp Scalar m s e ok tidy (record { kind = is; turn = t }) h
by_kind SequenceStart sp m s e is ok tidy t h = why_start sp Sequence m s e ok tidy (record { kind = is; turn = t }) refl h
by_kind SequenceEnd sp m s e is ok tidy t h = absurd (why_closing s.frames m.end s e h)
by_kind MappingStart sp m s e is ok tidy t h = why_start sp Mapping m s e ok tidy (record { kind = is; turn = t }) refl h
by_kind MappingEnd sp m s e is ok tidy t h = absurd (why_closing s.frames m.end s e h)

pub because : (sp : Spaces) (m : Marked) (s : St) (e : Refusal) → allowed m.event ≡ true → Tidy s → taking sp m s ≡ Err e → Why sp m s e
because sp m s e ok tidy h = elim (err_if (in_turn m.event.kind s) (taken m.event.kind sp m s) (NotInTurn m.start) e h) [
  | inl a ↦ not_in_turn a.1 (λ t. both_ways (in_turn m.event.kind s) a.0 (turn_off m.event.kind sp m s refl tidy t))
  | inr a ↦ by_kind m.event.kind sp m s e refl ok tidy (turn_on m.event.kind m s refl tidy a.0) a.1
]

-- and back
turned : (k : EventKind) (sp : Spaces) (m : Marked) (s : St) (r : Result St Refusal) → m.event.kind ≡ k → in_turn k s ≡ true → taken k sp m s ≡ r → taking sp m s ≡ r
turned k sp m s r is turn h =
    ap (λ q. cond (in_turn q s) (taken q sp m s) (Err (NotInTurn m.start))) is ∙ cond-true (in_turn k s) (taken k sp m s) (Err (NotInTurn m.start)) turn ∙ h

node_turned : (k : NodeKind) (sp : Spaces) (m : Marked) (s : St) (e : Refusal) → Gives k m s → node_step sp k m s ≡ Err e → taking sp m s ≡ Err e
node_turned Scalar sp m s e g h = turned ScalarEvent sp m s (Err e) g.kind (child_off s g.turn) h
node_turned Sequence sp m s e g h = turned SequenceStart sp m s (Err e) g.kind (child_off s g.turn) (ap (λ r. next r (opening Sequence m.start)) h)
node_turned Mapping sp m s e g h = turned MappingStart sp m s (Err e) g.kind (child_off s g.turn) (ap (λ r. next r (opening Mapping m.start)) h)

start_turned : (k : NodeKind) (sp : Spaces) (m : Marked) (s : St) (e : Refusal) → is_collection k ≡ true → Gives k m s → start_step sp k m s ≡ Err e → taking sp m s ≡ Err e
start_turned Scalar sp m s e c g h = cc
start_turned Sequence sp m s e c g h = turned SequenceStart sp m s (Err e) g.kind (child_off s g.turn) h
start_turned Mapping sp m s e c g h = turned MappingStart sp m s (Err e) g.kind (child_off s g.turn) h

either : (b : Bool) (x : Result St Refusal) → cond b x x ≡ x
either true x = refl
either false x = refl

full_adding : (fs : List Frame) (sp : Spaces) (at : Mark) (v : ℕ) (s u : St) → u.waiting ≡ s.waiting → u.links ≡ s.links → NoChildSpace fs sp s → adding_to fs sp at v u ≡ Err (ChildrenFull at)
full_adding [] sp at v s u w l n = absurd n
full_adding (f ∷ fs) sp at v s u w l (inl a) = cond-false (ltb (length u.waiting) sp.waiting) _ _ (le-ltb _ _ (omega (arith, ap length w)))
full_adding (f ∷ fs) sp at v s u w l (inr b) =
    let c : ltb (length u.links + length u.waiting) sp.links ≡ false = le-ltb _ _ (omega (arith, ap length w, ap length l)) in
    ap (λ q. cond (ltb (length u.waiting) sp.waiting) (cond q (Ok (with_child f fs v u)) (Err (ChildrenFull at))) (Err (ChildrenFull at))) c
    ∙ either (ltb (length u.waiting) sp.waiting) (Err (ChildrenFull at))

name_new : (bytes : List ℕ) (sp : Spaces) (s : St) → Tidy s → NameSpace bytes sp s → NewName bytes s.anchors × NameRoom bytes sp s.anchors
name_new [] sp s tidy n = (tt, tt)
name_new (b ∷ bs) sp s tidy n = (tidy.names (b ∷ bs) ∙ n.0, n.1)

child_room : (fs : List Frame) (sp : Spaces) (s : St) → ChildSpace fs sp s → ChildRoom fs sp s.links s.waiting
child_room [] sp s c = tt
child_room (f ∷ fs) sp s c = c

some_name : (bytes : List ℕ) (sp : Spaces) (at : Mark) (s u : St) (o : Option ℕ) → bytes ≢ [] → found u.anchors bytes ≡ o → registering bytes sp at u ≡ naming_by o sp at bytes u
some_name [] sp at s u o n f = absurd (n refl)
some_name (b ∷ bs) sp at s u o n f = ap (λ q. naming_by q sp at (b ∷ bs) u) f

module _ (sp : Spaces) (k : NodeKind) (m : Marked) (s : St) (ok : allowed m.event ≡ true) (tidy : Tidy s) (g : Gives k m s) (n : NodeSpace sp k m s) where
  made : noding sp k m s ≡ Ok (makes k m s)
  made = noding_back sp k m s n.nodes (let q = text_same k m ok g.kind in let t = n.text in omega (arith, q, t))

  name_refused : (e : Refusal) (o : Option ℕ) → m.event.anchor ≢ [] → named m.event.anchor (composed_of s).names ≡ o → naming_by o sp m.start m.event.anchor (makes k m s) ≡ Err e → node_step sp k m s ≡ Err e
  name_refused e o some is h =
      ap (λ q. next q (naming_adding sp m)) made
      ∙ ap (λ q. next q (adding_newest sp m.start)) (some_name m.event.anchor sp m.start s (makes k m s) o some (tidy.names m.event.anchor ∙ is) ∙ h)

  child_refused : NameSpace m.event.anchor sp s → NoChildSpace s.frames sp s → node_step sp k m s ≡ Err (ChildrenFull m.start)
  child_refused a full =
      let r = name_new m.event.anchor sp s tidy a in
      ap (λ q. next q (naming_adding sp m)) made
      ∙ ap (λ q. next q (adding_newest sp m.start)) (registering_back m.event.anchor sp m.start (makes k m s) r.0 r.1)
      ∙ full_adding s.frames sp m.start (length (makes k m s).nodes) s (named_as m.event.anchor (makes k m s)) refl refl full

  deep_refused : NameSpace m.event.anchor sp s → ChildSpace s.frames sp s → 256 ≤ length s.frames → start_step sp k m s ≡ Err (TooDeep m.start)
  deep_refused a c deep =
      let r = name_new m.event.anchor sp s tidy a in
      let t = text_same k m ok g.kind in
      let x = n.text in
      ap (λ q. next q (opening k m.start)) (node_back sp k m s (record { nodes = n.nodes; text = omega (arith, t, x); new = r.0; name = r.1; child = child_room s.frames sp s c }))
      ∙ cond-false (ltb (length (added_frames s.frames)) 256) _ _ (le-ltb _ _ (omega (arith, added_length s.frames)))

again_refused : (sp : Spaces) (k : NodeKind) (m : Marked) (s : St) (v : ℕ) → v ≤ length s.nodes
    → naming_by (Some v) sp m.start m.event.anchor (makes k m s) ≡ Err (AnchorAgain m.start (start_of (numbered s.nodes v)))
again_refused sp k m s v h = ap (λ o. Err (AnchorAgain m.start (start_of o))) (numbered_front s.nodes _ v h)

pub so : (sp : Spaces) (m : Marked) (s : St) (e : Refusal) → allowed m.event ≡ true → Tidy s → Why sp m s e → taking sp m s ≡ Err e
so sp m s e ok tidy (not_in_turn is out) = elim (cases_Bool (in_turn m.event.kind s)) [
  | inl t ↦ absurd (out (turn_on m.event.kind m s refl tidy t))
  | inr f ↦ cond-false (in_turn m.event.kind s) (taken m.event.kind sp m s) (Err (NotInTurn m.start)) f ∙ ap Err (sym is)
]
so sp m s e ok tidy (unknown_alias is g absent) =
    turned Alias sp m s (Err e) g.kind (child_off s g.turn) (ap (λ o. alias_of o sp m.start s) (tidy.names m.event.anchor ∙ absent) ∙ ap Err (sym is))
so sp m s e ok tidy (alias_full v is g known full) =
    turned Alias sp m s (Err e) g.kind (child_off s g.turn)
    (ap (λ o. alias_of o sp m.start s) (tidy.names m.event.anchor ∙ known) ∙ full_adding s.frames sp m.start v s s refl refl full ∙ ap Err (sym is))
so sp m s e ok tidy (nodes_full k is g full) =
    node_turned k sp m s e g (ap (λ q. next q (naming_adding sp m)) (cond-false (ltb (length s.nodes) sp.nodes) _ _ (le-ltb _ _ full)) ∙ ap Err (sym is))
so sp m s e ok tidy (text_full k is g some full) =
    let q = text_same k m ok g.kind in
    node_turned k sp m s e g (ap (λ r. next r (naming_adding sp m))
    (cond-true (ltb (length s.nodes) sp.nodes) _ _ (lt-ltb _ _ some)
    ∙ cond-false (leb (length s.text + (length (resolved k m.event.tag) + length (value_for k m.event.value))) sp.text) _ _ (lt-leb _ _ (omega (arith, q, full)))) ∙ ap Err (sym is))
so sp m s e ok tidy (anchor_again k v is g n some known) =
    node_turned k sp m s e g (name_refused sp k m s ok tidy g n e (Some v) some known
    (again_refused sp k m s v (tidy.known m.event.anchor v (tidy.names m.event.anchor ∙ known)).1 ∙ ap Err (sym is)))
so sp m s e ok tidy (anchors_full k is g n some absent full) =
    node_turned k sp m s e g (name_refused sp k m s ok tidy g n e None some absent (cond-false (ltb (length s.anchors) sp.anchors) _ _ (le-ltb _ _ full) ∙ ap Err (sym is)))
so sp m s e ok tidy (children_full k is g n a full) = node_turned k sp m s e g (child_refused sp k m s ok tidy g n a full ∙ ap Err (sym is))
so sp m s e ok tidy (too_deep k is c g n a room deep) = start_turned k sp m s e c g (deep_refused sp k m s ok tidy g n a room deep ∙ ap Err (sym is))

pub step_refused : StepRefused
step_refused sp m s e ok tidy = record { because = because sp m s e ok tidy; so = so sp m s e ok tidy }

-- a whole run
record First (sp : Spaces) (s : St) (ms : List Marked) (e : Refusal) : Type 0 where
  events : List Marked
  at : Marked
  rest : List Marked
  state : St
  parts : ms ≡ events ++ at ∷ rest
  went : Went sp s events state
  why : Why sp at state e

record Short (sp : Spaces) (after : Option Fault) (s : St) (ms : List Marked) (e : Refusal) : Type 0 where
  state : St
  went : Went sp s ms state
  is : e ≡ missing after

module _ (sp : Spaces) (start : Marked) (after : Option Fault) where
  one_refused : (s : St) (m : Marked) (ms : List Marked) (e : Refusal) → allowed m.event ≡ true → Tidy s
      → ((t : St) → Tidy t → (running sp start after (Some m.event) t ms).answer ≡ Err e → First sp t ms e ⊎ Short sp after t ms e)
      → (r : Result St Refusal) → taking sp m s ≡ r
      → (stepped r start m (flowing (Some m.event) ms after) (λ t. running sp start after (Some m.event) t ms)).answer ≡ Err e → First sp s (m ∷ ms) e ⊎ Short sp after s (m ∷ ms) e
  one_refused s m ms e ok tidy on (Err f) is h =
      let q : f ≡ e = cc in
      inl (record { events = []; at = m; rest = ms; state = s; parts = refl; went = none; why = subst (Why sp m s) q (because sp m s f ok tidy is) })
  one_refused s m ms e ok tidy on (Ok t) is h = elim (cases_Bool (is_document_end m.event.kind)) [
    | inl y ↦ let a = rw y at h in cc
    | inr f ↦ elim (on t (step_composes sp m s t ok f tidy is).tidy (rw f at h)) [
      | inl r ↦ inl (record { events = m ∷ r.events; at = r.at; rest = r.rest; state = r.state; parts = ap (λ l. m ∷ l) r.parts; went = more f is r.went; why = r.why })
      | inr r ↦ inr (record { state = r.state; went = more f is r.went; is = r.is })
    ]
  ]

refused_from : (sp : Spaces) (start : Marked) (after : Option Fault) (latest : Option Ev) (ms : List Marked) (e : Refusal) (s : St) → all_allowed (map bare ms) ≡ true → Tidy s
    → (running sp start after latest s ms).answer ≡ Err e → First sp s ms e ⊎ Short sp after s ms e
unfolding running
refused_from sp start after latest [] e s ok tidy h = let q : e ≡ missing after = cc in inr (record { state = s; went = none; is = q })
refused_from sp start after latest (m ∷ ms) e s ok tidy h =
    let p = and_parts (allowed m.event) (all_allowed (map bare ms)) ok in
    one_refused sp start after s m ms e p.0 tidy (λ t. refused_from sp start after (Some m.event) ms e t p.1) (taking sp m s) refl h

pub run_refused : RunRefused
run_refused sp start after latest ms e ok h = elim (refused_from sp start after latest ms e blank ok blank_tidy h) [
  | inl r ↦ inl (record { events = r.events; at = r.at; rest = r.rest; state = r.state; parts = r.parts; went = r.went; why = r.why })
  | inr r ↦ inr (record { state = r.state; went = r.went; is = r.is })
]
