-- What each part of a step makes of the tables, and what they then stand for.
use Rattle.std.proofs.Common.{◌≡◌, ℕ, ◌-◌, ◌≤◌, Bool, true, List, [], ◌∷◌, ◌++◌, length, take, Some, None, sym, refl, ap, ◌∙◌, subst, ap₂, arith}
use Rattle.std.proofs.lemmas.List.{append-nil, length-append, map_push, take_all, drop_all}
use Rattle.std.proofs.ByRecursion.{All-push, All-weaker}
use Rattle.std.proofs.lemmas.List.Sums.{sum_by_push}
use Rattle.model.specs.declared.NodeKind.{NodeKind}
use Rattle.model.specs.declared.Mark.{Mark}
use Rattle.model.specs.Graph.{nth}
use Rattle.document.specs.declared.node.Node.{Node}
use Rattle.document.specs.Questions.{link_count, text_length}
use Rattle.document.specs.Books.{vertex_of, graph_of}
use Rattle.serial.specs.Compose.{frame, Takes, bare_vertex, noted, fresh}
use Rattle.serial.specs.Compose.{Frame as OpenOne}
use Rattle.serial.proofs.Standing.{nth_left, nth_push}
use Rattle.composer.specs.declared.anchor.Anchor.{Anchor}
use Rattle.composer.specs.declared.frames.Frame.{Frame}
use Rattle.composer.specs.Names.{found, entry_of}
use Rattle.composer.specs.State.{St}
use Rattle.composer.specs.Steps.{takes_child, one_more, value_for, node_from, with_node, kind_number, opened, with_frame}
use Rattle.loads.specs.Tidy.{root_of, last_of, before_last, open_ones_of, names_of, Placed, AllOpen, Tidy, collection_kind}
use Rattle.loads.proofs.Parts.{new_look, graph_grow, placed_grow, new_vertex, new_placed, last_push, before_push}
use Rattle.loads.proofs.Names.{name_back, names_push, found_names, found_known}

pub root_push : (vs : List Node) (v : Node) → root_of (vs ++ v ∷ []) ≡ 1 ∷ []
root_push [] v = refl
root_push (w ∷ vs) v = refl

pub root_some : (vs : List Node) (i : ℕ) (v : Node) → nth vs i ≡ Some v → root_of vs ≡ 1 ∷ []
root_some [] i v h = cc
root_some (w ∷ vs) i v h = refl

pub open_push : (nodes : List Node) (n : ℕ) (v : Node) (fs : List Frame) (waiting : List ℕ) → AllOpen nodes n fs waiting → AllOpen (nodes ++ v ∷ []) n fs waiting
open_push nodes n v [] waiting h = h
open_push nodes n v (f ∷ fs) waiting h = (
  record {
    place = h.0.place;
    node = h.0.node;
    number = h.0.number;
    here = nth_left nodes (v ∷ []) h.0.place h.0.node h.0.here;
    kind = h.0.kind;
    below = h.0.below;
    bare = h.0.bare;
  },
  h.1,
  open_push nodes h.0.place v fs (before_last f.children waiting) h.2,
)

pub open_higher : (nodes : List Node) (n m : ℕ) (fs : List Frame) (waiting : List ℕ) → n ≤ m → AllOpen nodes n fs waiting → AllOpen nodes m fs waiting
open_higher nodes n m [] waiting l h = h
open_higher nodes n m (f ∷ fs) waiting l h =
    (record { place = h.0.place; node = h.0.node; number = h.0.number; here = h.0.here; kind = h.0.kind; below = omega (arith, h.0.below); bare = h.0.bare }, h.1, h.2)

-- a node more
module _ (k : NodeKind) (style : ℕ) (tag value : List ℕ) (start end : Mark) (s : St) (t : Tidy s) where
  abbrev new_node : Node
  new_node = node_from k style (length s.text) (length tag) (length (value_for k value)) start end

  abbrev with_new : St
  with_new = with_node new_node (tag ++ value_for k value) s

  pub tidy_node : Tidy with_new
  tidy_node =
      let bytes : List ℕ = tag ++ value_for k value in
      let a = length-append s.text bytes in
      let b = length-append tag (value_for k value) in
      let c = length-append s.nodes (new_node ∷ []) in
      record {
        placed = All-push (Placed s.links (s.text ++ bytes)) s.nodes new_node
            (All-weaker (Placed s.links s.text) (Placed s.links (s.text ++ bytes)) (placed_grow s.links s.links s.text (s.text ++ bytes) (omega arith) (omega arith)) s.nodes t.placed)
            (new_placed k style s.links s.text tag value start end);
        opens = open_higher (s.nodes ++ new_node ∷ []) (length s.nodes) (length (s.nodes ++ new_node ∷ [])) s.frames s.waiting (omega arith)
            (open_push s.nodes (length s.nodes) new_node s.frames s.waiting t.opens);
        names = t.names;
        known = λ x v h. let r = t.known x v h in (r.0, omega (arith, r));
        texts = omega (arith, sum_by_push text_length s.nodes new_node, t.texts);
        placed_links = omega (arith, sum_by_push link_count s.nodes new_node, t.placed_links);
      }

  pub graph_node : graph_of with_new.nodes with_new.links with_new.text ≡ graph_of s.nodes s.links s.text ++ bare_vertex (new_look k style tag (value_for k value)) ∷ []
  graph_node =
      let bytes : List ℕ = tag ++ value_for k value in
      map_push (vertex_of s.links (s.text ++ bytes)) s.nodes new_node
      ∙ ap₂ (λ g x. g ++ x ∷ [])
      (ap (λ l. graph_of s.nodes l (s.text ++ bytes)) (sym (append-nil s.links)) ∙ graph_grow s.nodes s.links [] s.text bytes t.placed)
      (new_vertex k style s.links s.text tag value start end)

-- a name more
abbrev pub named_anchors : List ℕ → ℕ → List Anchor → List Anchor
named_anchors [] v anchors = anchors
named_anchors (b ∷ bs) v anchors = anchors ++ entry_of (b ∷ bs) v ∷ []

abbrev pub named_as : List ℕ → St → St
named_as bytes s = record {
  nodes = s.nodes;
  links = s.links;
  text = s.text;
  anchors = named_anchors bytes (length s.nodes) s.anchors;
  waiting = s.waiting;
  frames = s.frames;
}

abbrev pub NewName : List ℕ → List Anchor → Type 0
NewName [] anchors = Unit {0}
NewName (b ∷ bs) anchors = found anchors (b ∷ bs) ≡ None

pub tidy_named : (bytes : List ℕ) (s : St) → 1 ≤ length s.nodes → NewName bytes s.anchors → Tidy s → Tidy (named_as bytes s)
tidy_named [] s some new t = record {
  placed = t.placed;
  opens = t.opens;
  names = t.names;
  known = t.known;
  texts = t.texts;
  placed_links = t.placed_links;
}
tidy_named (b ∷ bs) s some new t =
    let a : Anchor = entry_of (b ∷ bs) (length s.nodes) in
    let n : found s.anchors (take (length (b ∷ bs)) a.bytes) ≡ None = ap (found s.anchors) (name_back (b ∷ bs) (length s.nodes)) ∙ new in
    record {
      placed = t.placed;
      opens = t.opens;
      texts = t.texts;
      placed_links = t.placed_links;
      names = found_names s.anchors a n t.names;
      known = found_known s.anchors a n (length s.nodes) (some, omega arith) t.known;
    }

pub names_named : (bytes : List ℕ) (n : ℕ) (anchors : List Anchor) → names_of (named_anchors bytes n anchors) ≡ noted bytes n (names_of anchors)
names_named [] n anchors = refl
names_named (b ∷ bs) n anchors = names_push [] anchors (entry_of (b ∷ bs) n) ∙ ap (λ x. (x, n) ∷ names_of anchors) (name_back (b ∷ bs) n)

pub fresh_named : (bytes : List ℕ) (s : St) → NewName bytes s.anchors → Tidy s → fresh bytes (names_of s.anchors)
fresh_named [] s new t = tt
fresh_named (b ∷ bs) s new t = sym (t.names (b ∷ bs)) ∙ new

-- a child more
abbrev pub added_frames : List Frame → List Frame
added_frames [] = []
added_frames (f ∷ fs) = one_more f ∷ fs

abbrev pub added_waiting : List Frame → ℕ → List ℕ → List ℕ
added_waiting [] v waiting = waiting
added_waiting (f ∷ fs) v waiting = waiting ++ v ∷ []

abbrev pub added_to : List Frame → ℕ → St → St
added_to fs v s = record {
  nodes = s.nodes;
  links = s.links;
  text = s.text;
  anchors = s.anchors;
  waiting = added_waiting fs v s.waiting;
  frames = added_frames fs;
}

pub open_added : (nodes : List Node) (n : ℕ) (fs : List Frame) (v : ℕ) (waiting : List ℕ) → AllOpen nodes n fs waiting → AllOpen nodes n (added_frames fs) (added_waiting fs v waiting)
open_added nodes n [] v waiting h = h
open_added nodes n (f ∷ fs) v waiting h = (
  record { place = h.0.place; node = h.0.node; number = h.0.number; here = h.0.here; kind = h.0.kind; below = h.0.below; bare = h.0.bare },
  omega (arith, h.1, length-append waiting (v ∷ [])),
  subst (AllOpen nodes h.0.place fs) (sym (before_push f.children v waiting)) h.2,
)

pub tidy_added : (fs : List Frame) (v : ℕ) (s : St) → AllOpen s.nodes (length s.nodes) fs s.waiting → Tidy s → Tidy (added_to fs v s)
tidy_added fs v s o t = record {
  placed = t.placed;
  names = t.names;
  known = t.known;
  texts = t.texts;
  placed_links = t.placed_links;
  opens = open_added s.nodes (length s.nodes) fs v s.waiting o;
}

pub record Received (was now : List OpenOne) (n : ℕ) : Type 0 where
  pub to : ℕ
  pub children : List ℕ
  pub others : List OpenOne
  pub before : was ≡ frame to children ∷ others
  pub takes : Takes to children
  pub after : now ≡ frame to (children ++ n ∷ []) ∷ others

pub received : (fs : List Frame) (nodes : List Node) (waiting : List ℕ) (n : ℕ)
    → takes_child fs nodes ≡ true → AllOpen nodes (length nodes) fs waiting → (nodes ≡ [] → n ≡ 1)
    → Received (open_ones_of fs (root_of nodes) waiting) (open_ones_of (added_frames fs) (1 ∷ []) (added_waiting fs n waiting)) n
received [] [] waiting n c o one = record { to = 0; children = []; others = []; before = refl; takes = refl; after = ap (λ i. frame 0 (i ∷ []) ∷ []) (sym (one refl)) }
received [] (v ∷ vs) waiting n c o one = cc
received (f ∷ fs) nodes waiting n c o one =
    let r = root_some nodes o.0.place o.0.node o.0.here in
    record {
      to = f.node;
      children = last_of f.children waiting;
      others = open_ones_of fs (1 ∷ []) (before_last f.children waiting);
      before = ap (λ l. frame f.node (last_of f.children waiting) ∷ open_ones_of fs l (before_last f.children waiting)) r;
      takes = subst (λ u. Takes u (last_of f.children waiting)) (sym o.0.number) tt;
      after = ap₂ (λ ks l. frame f.node ks ∷ open_ones_of fs (1 ∷ []) l) (last_push f.children n waiting) (before_push f.children n waiting);
    }

-- a collection more
pub tidy_opened : (mapping : Bool) (s : St) (vs : List Node) (v : Node)
    → s.nodes ≡ vs ++ v ∷ [] → v.kind ≡ kind_number (collection_kind mapping) → v.link_count ≡ 0 → AllOpen s.nodes (length vs) s.frames s.waiting → Tidy s → Tidy (with_frame (opened mapping (length s.nodes)) s)
tidy_opened mapping s vs v is kind bare outer t =
    let e : length s.nodes - 0 ≡ length s.nodes = omega arith in
    record {
      placed = t.placed;
      names = t.names;
      known = t.known;
      texts = t.texts;
      placed_links = t.placed_links;
      opens = (
        record {
          place = length vs;
          node = v;
          number = ap length is ∙ length-append vs (v ∷ []) ∙ omega arith;
          here = ap (λ l. nth l (length vs)) is ∙ nth_push vs v;
          kind = kind;
          below = omega (arith, ap length is, length-append vs (v ∷ []));
          bare = bare;
        },
        omega arith,
        subst (AllOpen s.nodes (length vs) s.frames) (sym (take_all (length s.waiting - 0) s.waiting (omega arith))) outer,
      );
    }

pub open_opened : (v : ℕ) (mapping : Bool) (fs : List Frame) (root waiting : List ℕ) → open_ones_of (opened mapping v ∷ fs) root waiting ≡ frame v [] ∷ open_ones_of fs root waiting
open_opened v mapping fs root waiting =
    ap₂ (λ ks l. frame v ks ∷ open_ones_of fs root l) (drop_all (length waiting - 0) waiting (omega arith)) (take_all (length waiting - 0) waiting (omega arith))
