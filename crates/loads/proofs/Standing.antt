-- What is loaded stands as a document.
use Rattle.std.proofs.Common.{◌≡◌, ℕ, zero, suc, ◌+◌, ◌-◌, ◌%◌, ◌≤◌, Bool, true, false, leb, List, [], ◌∷◌, ◌++◌, map, length, take, drop, set, Some, None, Ok, Option, sym, refl, ap, ◌∙◌, subst, arith}
use Rattle.std.specs.List.{AllByRecursion}
use Rattle.std.proofs.lemmas.List.{length-append, length-set, drop_at, take_at, take_all}
use Rattle.std.proofs.ByRecursion.{All-push, All-set}
use Rattle.std.proofs.lemmas.Bool.{le-leb, eq-eqb, and_parts, and_from}
use Rattle.model.specs.declared.EventKind.{EventKind}
use Rattle.model.specs.declared.EventKind.TheVariants.{StreamStart, StreamEnd, DocumentStart, DocumentEnd, Alias, Scalar as ScalarEvent, SequenceStart, SequenceEnd, MappingStart, MappingEnd}
use Rattle.model.specs.declared.NodeKind.{NodeKind}
use Rattle.model.specs.declared.NodeKind.TheVariants.{Scalar, Sequence, Mapping}
use Rattle.model.specs.declared.Mark.{Mark}
use Rattle.model.specs.Events.{allowed, all_allowed}
use Rattle.model.specs.Reading.{Marked, bare}
use Rattle.document.specs.declared.node.Node.{Node}
use Rattle.std.specs.List.{list_all as every}
use Rattle.document.specs.Questions.{part, names, link_total, text_total}
use Rattle.document.specs.Check.{handed, AllFit}
use Rattle.document.specs.Books.{graph_of}
use Rattle.document.proofs.Every.{every_push}
use Rattle.serial.specs.Serialize.{start_kind, end_kind}
use Rattle.serial.specs.Compose.{resolved}
use Rattle.composer.specs.declared.frames.Frame.{Frame}
use Rattle.composer.specs.declared.refusal.Refusal.TheVariants.{NotInTurn}
use Rattle.composer.specs.Names.{found}
use Rattle.composer.specs.State.{St, blank, Spaces}
use Rattle.composer.specs.Steps.{in_turn, alias_of, kind_number, value_for, node_from, node_step, opening, start_step, linked, closing, closed_by, taken}
use Rattle.loader.specs.Loading.{kept, counted}
use Rattle.loads.specs.Tidy.{last_of, before_last, Placed, Tidy, AllOpen, collection_kind}
use Rattle.loads.specs.Runs.{Went, none, more}
use Rattle.loads.specs.Room.{Within}
use Rattle.loads.specs.Standing.{Limited, Stands, LoadedStands}
use Rattle.loads.proofs.Parts.{part_grow, graph_grow, placed_grow}
use Rattle.loads.proofs.Making.{added_waiting}
use Rattle.loads.proofs.Ways.{ok_if, ok_next}
use Rattle.loads.proofs.Stepping.{after_node, node_ok, adding_ok, opening_ok}
use Rattle.loads.proofs.Closing.{nth_all, kids_count, closed_after}
use Rattle.loads.proofs.Steps.{ends, ends_some, ends_fit, step_composes, blank_tidy}
use Rattle.loads.proofs.Keeping.{step_within, blank_within}
use Rattle.loads.proofs.Running.{loaded_ran}
use Rattle.loads.proofs.Exactly.{front_allowed}
use Rattle.loads.proofs.Right.{NodeRight, link_shape, Right, right_grow, all_grow, right_longer, new_right, all_right, names_grow}

every_drop : (p : ℕ → Bool) (n : ℕ) (xs : List ℕ) → every p xs ≡ true → every p (drop n xs) ≡ true
every_drop p zero xs h = h
every_drop p (suc n) [] h = refl
every_drop p (suc n) (x ∷ xs) h = every_drop p n xs (and_parts (p x) (every p xs) h).1

every_take : (p : ℕ → Bool) (n : ℕ) (xs : List ℕ) → every p xs ≡ true → every p (take n xs) ≡ true
every_take p zero xs h = refl
every_take p (suc n) [] h = refl
every_take p (suc n) (x ∷ xs) h = let q = and_parts (p x) (every p xs) h in and_from (p x) (every p (take n xs)) q.0 (every_take p n xs q.1)

waits_added : (fs : List Frame) (n v : ℕ) (wait : List ℕ) → 1 ≤ v → v ≤ n → every (names n) wait ≡ true → every (names n) (added_waiting fs v wait) ≡ true
waits_added [] n v wait a b h = h
waits_added (f ∷ fs) n v wait a b h = every_push (names n) wait v h (and_from (leb 1 v) (leb v n) (le-leb 1 v a) (le-leb v n b))

right_node : (k : NodeKind) (m : Marked) (s : St) → allowed m.event ≡ true → m.event.kind ≡ start_kind k → Tidy s → Right s → Right (after_node k m s)
right_node k m s ok is tidy r =
    let e = m.event in
    let bytes : List ℕ = resolved k e.tag ++ value_for k e.value in
    let v : Node = node_from k e.style (length s.text) (length (resolved k e.tag)) (length (value_for k e.value)) m.start m.end in
    let n : ℕ = length s.nodes in let n' : ℕ = length (s.nodes ++ v ∷ []) in
    let long : n' ≡ n + 1 = length-append s.nodes (v ∷ []) in
    record {
      nodes = All-push (NodeRight n' s.links (s.text ++ bytes)) s.nodes v
          (all_grow (λ w p q. right_grow n n' s.links s.links s.text (s.text ++ bytes) w (omega arith) (part_grow s.text bytes w.tag_start w.tag_length p.tag) refl q) s.nodes tidy.placed r.nodes)
          (new_right n' k e s.links s.text m.start m.end ok is);
      waits = waits_added s.frames n' n' s.waiting (omega arith) (omega arith) (names_grow n n' s.waiting (omega arith) r.waits);
    }

right_alias : (o : Option ℕ) (sp : Spaces) (m : Marked) (s t : St) → found s.anchors m.event.anchor ≡ o → Tidy s → Right s → alias_of o sp m.start s ≡ Ok t → Right t
right_alias None sp m s t is tidy r h = cc
right_alias (Some v) sp m s t is tidy r h =
    let k = tidy.known m.event.anchor v is in
    rw (adding_ok s.frames sp m.start v s t refl h) (record { nodes = r.nodes; waits = waits_added s.frames (length s.nodes) v s.waiting k.0 k.1 r.waits })

shape_linked : (b : Bool) (v : Node) (first count : ℕ) (stop : Mark) → v.kind ≡ kind_number (collection_kind b) → (b ≡ true → count % 2 ≡ 0) → link_shape (linked v first count stop) ≡ true
shape_linked false v first count stop k even = rw k refl
shape_linked true v first count stop k even = rw k (eq-eqb (count % 2) 0 (even refl))

right_closing : (mapping : Bool) (fs : List Frame) (m : Marked) (s t : St) → s.frames ≡ fs → m.event.kind ≡ end_kind (collection_kind mapping)
    → ends mapping fs ≡ true → Tidy s → Right s → closing fs m.end s ≡ Ok t → Right t
right_closing mapping [] m s t is kind turn tidy r h = absurd (ends_some mapping turn)
right_closing mapping (f ∷ fs) m s t is kind turn tidy r h =
    let p = ends_fit mapping f fs turn in
    let k : m.event.kind ≡ end_kind (collection_kind f.mapping) = kind ∙ ap (λ b. end_kind (collection_kind b)) (sym p.0) in
    let even : f.mapping ≡ true → f.children % 2 ≡ 0 = λ b. p.1 (sym p.0 ∙ b) in
    let q : t ≡ closed_by f fs m.end s = cc in
    let o : AllOpen s.nodes (length s.nodes) (f ∷ fs) s.waiting = subst (λ l. AllOpen s.nodes (length s.nodes) l s.waiting) is tidy.opens in
    let ks : List ℕ = last_of f.children s.waiting in
    let n : ℕ = length s.nodes in
    let i : ℕ = o.0.place in let v : Node = o.0.node in
    let w : Node = linked v (length s.links) f.children m.end in
    let old = nth_all (NodeRight n s.links s.text) s.nodes i v o.0.here r.nodes in
    let new : part (s.links ++ ks) (length s.links) f.children ≡ ks
    = ap (take f.children) (drop_at s.links ks (length s.links) refl) ∙ take_all f.children ks (omega (arith, kids_count s f fs m.end m.event is tidy k even)) in
    let here : NodeRight n (s.links ++ ks) s.text w = record {
      kind = old.kind;
      tag_some = old.tag_some;
      tag_few = old.tag_few;
      tag_free = old.tag_free;
      tag_told = old.tag_told;
      value = old.value;
      shape = shape_linked f.mapping v (length s.links) f.children m.end o.0.kind even;
      named = ap (every (names n)) new ∙ every_drop (names n) (length s.waiting - f.children) s.waiting r.waits;
    } in
    let all : AllByRecursion (NodeRight n (s.links ++ ks) s.text) (set s.nodes i w)
    = All-set (NodeRight n (s.links ++ ks) s.text) s.nodes i w here
    (all_grow (λ u pl g. right_grow n n s.links (s.links ++ ks) s.text s.text u (omega arith) refl (part_grow s.links ks u.first_link u.link_count pl.linked) g) s.nodes tidy.placed r.nodes) in
    let same : n ≡ length (set s.nodes i w) = sym (length-set s.nodes i w) in
    rw (q ∙ closed_after s f fs m.end m.event is tidy k even) (record {
      nodes = subst (λ j. AllByRecursion (NodeRight j (s.links ++ ks) s.text) (set s.nodes i w)) same all;
      waits = subst (λ j. every (names j) (before_last f.children s.waiting) ≡ true) same (every_take (names n) (length s.waiting - f.children) s.waiting r.waits);
    })

right_scalar : (sp : Spaces) (k : NodeKind) (m : Marked) (s t : St) → allowed m.event ≡ true → m.event.kind ≡ start_kind k → Tidy s → Right s → node_step sp k m s ≡ Ok t → Right t
right_scalar sp k m s t ok is tidy r h = rw (node_ok sp k m s t h).1 (right_node k m s ok is tidy r)

right_start : (sp : Spaces) (k : NodeKind) (m : Marked) (s t : St) → allowed m.event ≡ true → m.event.kind ≡ start_kind k → Tidy s → Right s → start_step sp k m s ≡ Ok t → Right t
right_start sp k m s t ok is tidy r h =
    let a = ok_next (node_step sp k m s) (opening k m.start) t h in
    let b = right_scalar sp k m s a.0 ok is tidy r a.1 in
    rw (opening_ok k m.start a.0 t a.2) (record { nodes = b.nodes; waits = b.waits })

by_kind : (k : EventKind) (sp : Spaces) (m : Marked) (s t : St) → m.event.kind ≡ k → allowed m.event ≡ true → Tidy s → Right s → in_turn k s ≡ true → taken k sp m s ≡ Ok t → Right t
by_kind StreamStart sp m s t is ok tidy r turn h = let e : s ≡ t = cc in subst Right e r
by_kind StreamEnd sp m s t is ok tidy r turn h = let e : s ≡ t = cc in subst Right e r
by_kind DocumentStart sp m s t is ok tidy r turn h = let e : s ≡ t = cc in subst Right e r
by_kind DocumentEnd sp m s t is ok tidy r turn h = let e : s ≡ t = cc in subst Right e r
by_kind Alias sp m s t is ok tidy r turn h = right_alias (found s.anchors m.event.anchor) sp m s t refl tidy r h
by_kind ScalarEvent sp m s t is ok tidy r turn h = right_scalar sp Scalar m s t ok is tidy r h
by_kind SequenceStart sp m s t is ok tidy r turn h = right_start sp Sequence m s t ok is tidy r h
by_kind SequenceEnd sp m s t is ok tidy r turn h = right_closing false s.frames m s t refl is turn tidy r h
by_kind MappingStart sp m s t is ok tidy r turn h = right_start sp Mapping m s t ok is tidy r h
by_kind MappingEnd sp m s t is ok tidy r turn h = right_closing true s.frames m s t refl is turn tidy r h

-- what accepted events leave
pub record Left (sp : Spaces) (t : St) : Type 0 where
  pub tidy : Tidy t
  pub right : Right t
  pub within : Within sp t

pub went_left : (sp : Spaces) {s t : St} {es : List Marked} → all_allowed (map bare es) ≡ true → Left sp s → Went sp s es t → Left sp t
went_left sp ok l none = l
went_left sp ok l (more {s = s} {t = u} {m = m} {ms = ms} other is went) =
    let p = and_parts (allowed m.event) (all_allowed (map bare ms)) ok in
    let a = ok_if (in_turn m.event.kind s) (taken m.event.kind sp m s) (NotInTurn m.start) u is in
    went_left sp p.1 (record {
      tidy = (step_composes sp m s u p.0 other l.tidy is).tidy;
      right = by_kind m.event.kind sp m s u refl p.0 l.tidy l.right a.0 a.1;
      within = step_within sp m s u l.within is;
    }) went

pub blank_left : (sp : Spaces) → Left sp blank
blank_left sp = record { tidy = blank_tidy; right = record { nodes = tt; waits = refl }; within = blank_within sp }

-- the tables cut to their space
take_past : {X : Type 0} (n : ℕ) (xs ys : List X) → length xs ≤ n → take n (xs ++ ys) ≡ xs ++ take (n - length xs) ys
take_past n [] ys h = let e : n ≡ n - 0 = omega arith in ap (λ m. take m ys) e
take_past zero (x ∷ xs) ys h = absurd (omega arith)
take_past (suc n) (x ∷ xs) ys h =
    let e : n - length xs ≡ suc n - suc (length xs) = omega arith in
    ap (λ l. x ∷ l) (take_past n xs ys (omega arith)) ∙ ap (λ m. x ∷ (xs ++ take m ys)) e

pub stands : (sp : Spaces) (s : St) (n : ℕ) (vs : List Node) (ls ts : List ℕ) → Limited sp → Left sp s → n ≡ length s.nodes → Stands (handed (s.nodes ++ vs) (s.links ++ ls) (s.text ++ ts) n) (kept s)
stands sp s n vs ls ts limit l is =
    let w = l.within in
    let nodes : take n (s.nodes ++ vs) ≡ s.nodes = take_at s.nodes vs n (sym is) in
    let links = take_past 16384 s.links ls (omega (arith, w.links, limit.links)) in
    let text = take_past 65536 s.text ts (omega (arith, w.text, limit.text)) in
    let ls' : List ℕ = take (16384 - length s.links) ls in
    let ts' : List ℕ = take (65536 - length s.text) ts in
    let long : AllByRecursion (NodeRight (length s.nodes) (s.links ++ ls') (s.text ++ ts')) s.nodes
    = all_grow (λ v p r. right_longer (length s.nodes) s.links ls' s.text ts' v p r) s.nodes l.tidy.placed l.right.nodes in
    let placed : AllByRecursion (Placed (s.links ++ ls') (s.text ++ ts')) s.nodes
    = all_grow (λ v p r. placed_grow s.links (s.links ++ ls') s.text (s.text ++ ts') (omega (arith, length-append s.links ls')) (omega (arith, length-append s.text ts')) v p) s.nodes l.tidy.placed l.right.nodes in
    let a = all_right (length s.nodes) s.nodes (s.links ++ ls') (s.text ++ ts') long placed in
    let fit : AllFit s.nodes (s.links ++ ls') (s.text ++ ts') = record {
      right = record { kinds = a.0; tags = a.1; values = a.2; linked = a.3 };
      small = and_from (leb (link_total s.nodes) 16384) (leb (text_total s.nodes) 65536)
          (le-leb (link_total s.nodes) 16384 (omega (arith, l.tidy.placed_links, w.links, limit.links)))
          (le-leb (text_total s.nodes) 65536 (omega (arith, l.tidy.texts, w.text, limit.text)));
    } in
    record {
      fit = record {
        enough = omega (arith, length-append s.nodes vs, w.nodes, limit.nodes);
        all = subst (λ x. AllFit x (take 16384 (s.links ++ ls)) (take 65536 (s.text ++ ts))) (sym nodes)
            (subst (λ x. AllFit s.nodes x (take 65536 (s.text ++ ts))) (sym links) (subst (λ x. AllFit s.nodes (s.links ++ ls') x) (sym text) fit));
      };
      graph = (λ i. graph_of (nodes i) (links i) (text i)) ∙ graph_grow s.nodes s.links ls' s.text ts' l.tidy.placed;
    }

pub loaded_stands : LoadedStands
loaded_stands sp start after latest ms l vs ls ts limit ok h =
    let r = loaded_ran sp start after latest blank ms l h in
    let left = went_left sp (front_allowed r.events (r.last ∷ r.rest) r.parts ok) (blank_left sp) r.went in
    let same : Ok (Some l) ≡ Ok (Some (counted start r.last r.end_state)) = sym h ∙ ap (λ o. o.answer) r.is in
    let count : l ≡ counted start r.last r.end_state = cc in
    subst (λ o. Stands (handed (o.holds.nodes ++ vs) (o.holds.links ++ ls) (o.holds.text ++ ts) l.nodes) o.holds) (sym r.is)
    (stands sp r.end_state l.nodes vs ls ts limit left (ap (λ q. q.nodes) count))
