-- The end of a collection: its children become its links.
use Rattle.std.proofs.Common.{◌≡◌, ℕ, zero, suc, ◌-◌, ◌%◌, ◌≤◌, Bool, true, false, List, [], ◌∷◌, ◌++◌, map, length, take, set, Some, sym, refl, ap, ◌∙◌, subst, ap₂, arith}
use Rattle.std.specs.List.{AllByRecursion}
use Rattle.std.proofs.lemmas.List.{append-nil, length-append, length-set, map-set, drop_at, take_all}
use Rattle.std.proofs.ByRecursion.{All-set, All-weaker}
use Rattle.model.specs.declared.Mark.{Mark}
use Rattle.model.specs.Events.{Ev}
use Rattle.model.specs.Graph.{Vertex, nth, numbered}
use Rattle.document.specs.declared.node.Node.{Node}
use Rattle.document.specs.Questions.{part, link_count, text_length}
use Rattle.document.specs.Books.{kind_of, vertex_of, graph_of}
use Rattle.serial.specs.Walk.{is_collection}
use Rattle.serial.specs.Serialize.{end_kind}
use Rattle.serial.specs.Compose.{frame, Complete, TakesIn, end, closed}
use Rattle.serial.proofs.Standing.{nth_set_other}
use Rattle.serial.proofs.Composing.{closed_is}
use Rattle.composer.specs.declared.frames.Frame.{Frame}
use Rattle.composer.specs.State.{St}
use Rattle.composer.specs.Steps.{linked, linked_at, closed_by}
use Rattle.loads.specs.Tidy.{root_of, last_of, before_last, open_ones_of, composed_of, Placed, AllOpen, Tidy, collection_kind}
use Rattle.loads.proofs.Making.{open_higher}
use Rattle.loads.proofs.Parts.{kind_back, graph_grow, placed_grow, sum_set, last_length}

pub nth_map : {X Y : Type 0} (f : X → Y) (xs : List X) (i : ℕ) (x : X) → nth xs i ≡ Some x → nth (map f xs) i ≡ Some (f x)
nth_map f [] i x h = cc
nth_map f (y ∷ xs) zero x h = let e : y ≡ x = cc in ap (λ q. Some (f q)) e
nth_map f (y ∷ xs) (suc i) x h = nth_map f xs i x h

pub nth_all : {X : Type 0} (P : X → Type 0) (xs : List X) (i : ℕ) (x : X) → nth xs i ≡ Some x → AllByRecursion P xs → P x
nth_all P [] i x h all = cc
nth_all P (y ∷ xs) zero x h all = let e : y ≡ x = cc in subst P e all.0
nth_all P (y ∷ xs) (suc i) x h all = nth_all P xs i x h all.1

-- the open collections before a node stay what they are where it gets its links
pub open_set : (nodes : List Node) (i n : ℕ) (w : Node) → n ≤ i → (fs : List Frame) (waiting : List ℕ) → AllOpen nodes n fs waiting → AllOpen (set nodes i w) n fs waiting
open_set nodes i n w l [] waiting h = h
open_set nodes i n w l (f ∷ fs) waiting h = (
  record {
    place = h.0.place;
    node = h.0.node;
    number = h.0.number;
    kind = h.0.kind;
    below = h.0.below;
    bare = h.0.bare;
    here = nth_set_other nodes i h.0.place w (λ e. omega (arith, h.0.below)) ∙ h.0.here;
  },
  h.1,
  open_set nodes i h.0.place w (omega (arith, h.0.below)) fs (before_last f.children waiting) h.2,
)

root_set : (nodes : List Node) (i : ℕ) (w : Node) → root_of (set nodes i w) ≡ root_of nodes
root_set [] i w = refl
root_set (v ∷ nodes) zero w = refl
root_set (v ∷ nodes) (suc i) w = refl

pub linked_at_lem : (nodes : List Node) (n i : ℕ) (v : Node) (first count : ℕ) (stop : Mark) → n ≡ suc i → nth nodes i ≡ Some v
    → linked_at nodes n (numbered nodes n) first count stop ≡ set nodes i (linked v first count stop)
linked_at_lem nodes n i v first count stop e h =
    let o : numbered nodes n ≡ Some v = ap (numbered nodes) e ∙ h in
    let p : n - 1 ≡ i = omega arith in
    ap (λ o. linked_at nodes n o first count stop) o ∙ ap (λ j. set nodes j (linked v first count stop)) p

collection_is : (b : Bool) → is_collection (collection_kind b) ≡ true
collection_is false = refl
collection_is true = refl

complete_is : (b : Bool) (ks : List ℕ) → (b ≡ true → length ks % 2 ≡ 0) → Complete (collection_kind b) ks
complete_is false ks h = tt
complete_is true ks h = h refl

-- the tables after the end
abbrev pub after_closing : St → ℕ → Node → List Frame → List ℕ → ℕ → Mark → St
after_closing s i v fs kids count stop = record {
  nodes = set s.nodes i (linked v (length s.links) count stop);
  links = s.links ++ kids;
  text = s.text;
  anchors = s.anchors;
  waiting = before_last count s.waiting;
  frames = fs;
}

module _ (s : St) (f : Frame) (fs : List Frame) (finish : Mark) (e : Ev) (is : s.frames ≡ f ∷ fs) (t : Tidy s)
    (kind : e.kind ≡ end_kind (collection_kind f.mapping)) (even : f.mapping ≡ true → f.children % 2 ≡ 0) where
  abbrev pub opens : AllOpen s.nodes (length s.nodes) (f ∷ fs) s.waiting
  opens = subst (λ l. AllOpen s.nodes (length s.nodes) l s.waiting) is t.opens

  abbrev pub kids : List ℕ
  kids = last_of f.children s.waiting

  abbrev pub after : St
  after = after_closing s opens.0.place opens.0.node fs kids f.children finish

  pub closed_after : closed_by f fs finish s ≡ after
  closed_after =
      let n = linked_at_lem s.nodes f.node opens.0.place opens.0.node (length s.links) f.children finish opens.0.number opens.0.here in
      λ i. record { nodes = n i; links = s.links ++ kids; text = s.text; anchors = s.anchors; waiting = before_last f.children s.waiting; frames = fs }

  pub kids_count : length kids ≡ f.children
  kids_count = last_length f.children s.waiting opens.1

  pub tidy_closed : Tidy after
  tidy_closed =
      let i : ℕ = opens.0.place in let v : Node = opens.0.node in
      let w : Node = linked v (length s.links) f.children finish in
      let long = length-append s.links kids in
      let old = nth_all (Placed s.links s.text) s.nodes i v opens.0.here t.placed in
      let sums = sum_set link_count s.nodes i v w opens.0.here in
      let texts = sum_set text_length s.nodes i v w opens.0.here in
      let k = kids_count in
      record {
        placed = All-set (Placed (s.links ++ kids) s.text) s.nodes i w
            (record { tag = old.tag; value = old.value; linked = omega arith })
            (All-weaker (Placed s.links s.text) (Placed (s.links ++ kids) s.text) (placed_grow s.links (s.links ++ kids) s.text s.text (omega arith) (omega arith)) s.nodes t.placed);
        opens = open_higher (set s.nodes i w) i (length (set s.nodes i w)) fs (before_last f.children s.waiting) (omega (arith, opens.0.below, length-set s.nodes i w))
            (open_set s.nodes i i w (omega arith) fs (before_last f.children s.waiting) opens.2);
        names = t.names;
        known = λ x n h. let r = t.known x n h in (r.0, omega (arith, r, length-set s.nodes i w));
        texts = omega (arith, texts, t.texts);
        placed_links = omega (arith, sums, t.placed_links, k, long, opens.0.bare);
      }

  pub taken_closed : TakesIn (composed_of s) e (composed_of after)
  taken_closed =
      let i : ℕ = opens.0.place in let v : Node = opens.0.node in
      let w : Node = linked v (length s.links) f.children finish in
      let g : List Vertex = graph_of s.nodes s.links s.text in
      let x : Vertex = vertex_of s.links s.text v in
      let here : numbered g (suc i) ≡ Some x = nth_map (vertex_of s.links s.text) s.nodes i v opens.0.here in
      let k : x.look.kind ≡ collection_kind f.mapping = ap kind_of opens.0.kind ∙ kind_back (collection_kind f.mapping) in
      let new : part (s.links ++ kids) (length s.links) f.children ≡ kids
      = ap (take f.children) (drop_at s.links kids (length s.links) refl) ∙ take_all f.children kids (omega (arith, kids_count)) in
      let look : vertex_of (s.links ++ kids) s.text w ≡ record { look = x.look; links = kids } = λ j. record { look = x.look; links = new j } in
      let nodes : graph_of (set s.nodes i w) (s.links ++ kids) s.text ≡ closed g (suc i) kids
      = map-set (vertex_of (s.links ++ kids) s.text) s.nodes i w
      ∙ ap₂ (λ h y. set h i y) (ap (graph_of s.nodes (s.links ++ kids)) (sym (append-nil s.text)) ∙ graph_grow s.nodes s.links kids s.text [] t.placed) look
      ∙ sym (closed_is g i x kids here) in
      let rest : open_ones_of fs (root_of (set s.nodes i w)) (before_last f.children s.waiting) ≡ open_ones_of fs (root_of s.nodes) (before_last f.children s.waiting)
      = ap (λ l. open_ones_of fs l (before_last f.children s.waiting)) (root_set s.nodes i w) in
      end {v = i} {children = kids} {x = x}
      (ap (λ l. open_ones_of l (root_of s.nodes) s.waiting) is ∙ ap (λ n. frame n kids ∷ open_ones_of fs (root_of s.nodes) (before_last f.children s.waiting)) opens.0.number)
      here (ap is_collection k ∙ collection_is f.mapping) (kind ∙ ap end_kind (sym k))
      (subst (λ q. Complete q kids) (sym k) (complete_is f.mapping kids (λ b. ap (λ n. n % 2) kids_count ∙ even b)))
      (λ j. record { nodes = nodes j; names = (composed_of s).names; open_ones = rest j })
