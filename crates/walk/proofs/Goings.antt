-- The visits that the three routines make, put together.
use Rattle.std.proofs.Common.{◌≡◌, ℕ, zero, suc, ◌+◌, ◌-◌, ◌*◌, ◌/◌, ◌%◌, ◌<◌, ◌≤◌, Bool, true, false, cond, List, [], ◌∷◌, ◌++◌, length, get_or, take, drop, set, Some, Ok, Err, Result, sym, refl, ap, ◌∙◌, subst, arith}
use Rattle.std.proofs.lemmas.List.{take_all, take-append-drop, length-append}
use Rattle.std.specs.Simd.{first_chunks}
use Rattle.model.specs.declared.NodeKind.{NodeKind}
use Rattle.model.specs.declared.NodeKind.TheVariants.{Scalar, Mapping}
use Rattle.model.specs.Graph.{Vertex, Book, nth, numbered}
use Rattle.document.specs.Sound.{SoundBook}
use Rattle.serial.specs.Walk.{Token, first, again, leave, among, is_collection}
use Rattle.serial.specs.Walks.{weight, Visit, Visits, visit_again, visit_leaf, visit_into, no_visit, visit_more, IsTooDeep, deep_here, deep_below, deep_at}
use Rattle.walk.specs.declared.entry.Counted.{Counted}
use Rattle.walk.specs.declared.entry.Step.{Step}
use Rattle.walk.specs.declared.entry.StepKind.TheVariants.{First, Again, Leave}
use Rattle.walk.specs.declared.dump.TooDeep.{TooDeep}
use Rattle.walk.specs.declared.dump.Walk.{Walk}
use Rattle.walk.specs.Entries.{empty_counted, entry_at, replaced}
use Rattle.walk.specs.Looks.{Inside, IsKind, links_at, HasLinks, LinksTo}
use Rattle.walk.specs.Going.{puts, State, state, state_of, SameTables, Stepped, Marks, weighed, SameAnchors, CanVisit, Went, NoWay, Visited, CanOpen, Opening, NoOpening, Opened}
use Rattle.walk.proofs.Places.{entry_is, replaced_is, length_replaced}
use Rattle.walk.proofs.Sounds.{steps_few, vertex_at_lem, paired}
use Rattle.walk.proofs.Looking.{links_are}
use Rattle.walk.proofs.Links.{take_nth, drop_nth, link_at, key_at, value_at}
use Rattle.walk.proofs.Marking.{weighed_few, weighed_more, met_when, unmet_when, marks_more, anchors_kept}
use Rattle.walk.proofs.Putting.{puts_on}

-- so few steps can be counted that the count fits its type
pub count_few : (b : Book) (t : List Counted) (n : ℕ) → SoundBook b → n ≤ weighed b.nodes t → n < 100000
count_few b t n s few = omega (arith, weighed_few b.nodes t, steps_few b s)

-- a node met again
pub went_again :
    (g : List Vertex) (depth v : ℕ) (p q : State) → 1 ≤ v → ((get_or p.counting (v - 1) empty_counted).serialized ≡ 0 → ⊥) → Stepped Again v p q → Went g depth v p q
went_again g depth v p q some met one =
    record {
      from = λ seen marks. record {
        tokens = again v ∷ [];
        met = seen;
        visit = visit_again (sym (marks v) ∙ met_when p.counting v (λ none. met (ap (λ (c : Counted). c.serialized) (entry_is p.counting v some) ∙ none))) refl refl;
        marks = subst (λ (t : List Counted). Marks t seen) (sym one.counting) marks;
        steps = one.wrote;
        at = one.count;
      };
      anchors = λ w. ap (λ (t : List Counted). (entry_at t w).anchor) one.counting;
      weighs = omega (arith, one.count, ap (weighed g) one.counting);
    }

-- the node v, met for the first time, is marked
pub record Marked (g : List Vertex) (v : ℕ) (t : List Counted) (c : Counted) (t' : List Counted) : Type 0 where
  pub inside : Inside g v
  pub room : length g ≤ length t
  pub unmet : (entry_at t v).serialized ≡ 0
  pub met : c.serialized ≡ 1
  pub anchor : c.anchor ≡ (entry_at t v).anchor
  pub table : t' ≡ replaced t v c

abbrev pub met_entry : Counted → Counted
met_entry c = record { references = c.references; anchor = c.anchor; serialized = 1 }

-- the entry and the table once the node v is marked, as the code writes them
abbrev pub entry_met : List Counted → ℕ → Counted
entry_met t v = met_entry (get_or t (v - 1) empty_counted)

abbrev pub table_met : List Counted → ℕ → List Counted
table_met t v = set t (v - 1) (entry_met t v)

abbrev pub once_met : State → ℕ → State
once_met p v = state (table_met p.counting v) p.steps p.at

pub marked :
    (g : List Vertex) (depth v : ℕ) (p : State) → CanVisit g depth v p → (get_or p.counting (v - 1) empty_counted).serialized ≡ 0
    → Marked g v p.counting (entry_met p.counting v) (table_met p.counting v)
marked g depth v p can unmet =
    let t = p.counting in
    let is = entry_is t v can.inside.low in
    record {
      inside = can.inside;
      room = can.room;
      unmet = ap (λ (c : Counted). c.serialized) (sym is) ∙ unmet;
      met = refl;
      anchor = ap (λ (c : Counted). c.anchor) is;
      table = replaced_is t v (entry_met t v) can.inside.low;
    }

fresh : (g : List Vertex) (v : ℕ) (t t' : List Counted) (c : Counted) (seen : List ℕ) → Marked g v t c t' → Marks t seen → among v seen ≡ false
fresh g v t t' c seen m marks = sym (marks v) ∙ unmet_when t v m.unmet

marks_after : (g : List Vertex) (v : ℕ) (t t' : List Counted) (c : Counted) (seen : List ℕ) → Marked g v t c t' → Marks t seen → Marks t' (v ∷ seen)
marks_after g v t t' c seen m marks =
    subst (λ (u : List Counted). Marks u (v ∷ seen)) (sym m.table)
    (marks_more t v c seen m.inside.low (omega (arith, m.inside.high, m.room)) m.met marks)

anchors_after : (g : List Vertex) (v : ℕ) (t t' : List Counted) (c : Counted) → Marked g v t c t' → SameAnchors t t'
anchors_after g v t t' c m =
    subst (λ (u : List Counted). SameAnchors t u) (sym m.table)
    (anchors_kept t v c m.inside.low (omega (arith, m.inside.high, m.room)) m.anchor)

weighed_after : (g : List Vertex) (v : ℕ) (t t' : List Counted) (c : Counted) (x : Vertex) → Marked g v t c t' → numbered g v ≡ Some x → weighed g t' ≡ weight x + weighed g t
weighed_after g v t t' c x m there =
    ap (λ (u : List Counted). weighed g u) m.table ∙ weighed_more g t v x c there (omega (arith, m.inside.high, m.room)) m.unmet m.met

length_after : (g : List Vertex) (v : ℕ) (t t' : List Counted) (c : Counted) → Marked g v t c t' → length t' ≡ length t
length_after g v t t' c m = ap length m.table ∙ length_replaced t v c

weight_by : (x : Vertex) (b : Bool) → is_collection x.look.kind ≡ b → weight x ≡ cond b (suc (length x.links)) 0
weight_by x b e = ap (λ k. cond k (suc (length x.links)) 0) e

-- a scalar
pub went_leaf :
    (g : List Vertex) (depth v : ℕ) (p q : State) → Marked g v p.counting (entry_met p.counting v) (table_met p.counting v) → IsKind g v Scalar
    → Stepped First v (once_met p v) q → Went g depth v p q
went_leaf g depth v p q m k one =
    let t = p.counting in
    let t' = table_met t v in
    let c = entry_met t v in
    let leaf : is_collection k.vertex.look.kind ≡ false = ap is_collection k.kind in
    record {
      from = λ seen marks. record {
        tokens = first v ∷ [];
        met = v ∷ seen;
        visit = visit_leaf (fresh g v t t' c seen m marks) k.there leaf refl refl;
        marks = subst (λ (u : List Counted). Marks u (v ∷ seen)) (sym one.counting) (marks_after g v t t' c seen m marks);
        steps = one.wrote;
        at = one.count;
      };
      anchors = λ w. ap (λ (u : List Counted). (entry_at u w).anchor) one.counting ∙ anchors_after g v t t' c m w;
      weighs = omega (arith, one.count, ap (weighed g) one.counting, weighed_after g v t t' c k.vertex m k.there, weight_by k.vertex false leaf);
    }

-- a collection
pub can_open :
    (g : List Vertex) (kind : NodeKind) (depth v : ℕ) (p : State) → CanVisit g depth v p → Marked g v p.counting (entry_met p.counting v) (table_met p.counting v)
    → is_collection kind ≡ true → IsKind g v kind → CanOpen g kind depth v (once_met p v)
can_open g kind depth v p can m coll k =
    let t = p.counting in
    let t' = table_met t v in
    let c = entry_met t v in
    let is : is_collection k.vertex.look.kind ≡ true = ap is_collection k.kind ∙ coll in
    let long = ap length (links_are g v k.vertex k.there) in
    record {
      inside = can.inside;
      room = omega (arith, can.room, length_after g v t t' c m);
      depth_fits = can.depth_fits;
      few = omega (arith, can.few, weighed_after g v t t' c k.vertex m k.there, weight_by k.vertex true is, long);
      vertex = k.vertex;
      there = k.there;
      kind = k.kind;
    }

went_into :
    (g : List Vertex) (kind : NodeKind) (depth v : ℕ) (p q : State) → Marked g v p.counting (entry_met p.counting v) (table_met p.counting v)
    → is_collection kind ≡ true → IsKind g v kind → Opening g depth v (once_met p v) q → Went g depth v p q
went_into g kind depth v p q m coll k o =
    let t = p.counting in
    let t' = table_met t v in
    let c = entry_met t v in
    let is : is_collection k.vertex.look.kind ≡ true = ap is_collection k.kind ∙ coll in
    let long = ap length (links_are g v k.vertex k.there) in
    record {
      from = λ seen marks.
          let w = o.from seen (fresh g v t t' c seen m marks) (marks_after g v t t' c seen m marks) in
          record { tokens = w.tokens; met = w.met; visit = w.visit; marks = w.marks; steps = w.steps; at = w.at };
      anchors = λ w. o.anchors w ∙ anchors_after g v t t' c m w;
      weighs = omega (arith, o.weighs, weighed_after g v t t' c k.vertex m k.there, weight_by k.vertex true is, long);
    }

pub opened_visited :
    (g : List Vertex) (kind : NodeKind) (depth v : ℕ) (p q : State) → Marked g v p.counting (entry_met p.counting v) (table_met p.counting v)
    → is_collection kind ≡ true → IsKind g v kind → (r : Result (Unit {0}) TooDeep) → Opened g depth v (once_met p v) r q → Visited g depth v p r q
opened_visited g kind depth v p q m coll k (Ok u) o = went_into g kind depth v p q m coll k o
opened_visited g kind depth v p q m coll k (Err e) o =
    let t = p.counting in
    λ seen marks. o seen (fresh g v t (table_met t v) (entry_met t v) seen m marks) (marks_after g v t (table_met t v) (entry_met t v) seen m marks)

-- Within a collection, after its first step: the first i of its links are visited.
pub record ChildrenFrom (g : List Vertex) (depth v i : ℕ) (p q : State) (seen : List ℕ) : Type 0 where
  pub tokens : List Token
  pub met : List ℕ
  pub visits : Visits g 256 (suc depth) (v ∷ seen) (take i (links_at g v)) tokens met
  pub marks : Marks q.counting met
  pub steps : q.steps ≡ puts p.steps p.at tokens
  pub at : q.at ≡ p.at + length tokens

pub record Children (g : List Vertex) (depth v i : ℕ) (p q : State) : Type 0 where
  pub from : (seen : List ℕ) → among v seen ≡ false → Marks p.counting (v ∷ seen) → ChildrenFrom g depth v i p q seen
  pub anchors : SameAnchors p.counting q.counting
  pub weighs : q.at + weighed g p.counting ≡ p.at + i + weighed g q.counting

-- the same of the tables that are written
pub record Going (g : List Vertex) (depth v i : ℕ) (a b : Walk) : Type 0 where
  pub children : Children g depth v i (state_of a) (state_of b)
  pub tables : SameTables a b

children_none : (g : List Vertex) (depth v : ℕ) (p : State) → Children g depth v 0 p p
children_none g depth v p =
    record {
      from = λ seen new marks. record {
        tokens = [];
        met = v ∷ seen;
        visits = no_visit refl refl refl;
        marks = marks;
        steps = refl;
        at = omega arith;
      };
      anchors = λ w. refl;
      weighs = omega arith;
    }

pub going_none : (g : List Vertex) (depth v : ℕ) (a : Walk) → Going g depth v 0 a a
going_none g depth v a = record { children = children_none g depth v (state_of a); tables = record { counting = refl; steps = refl; nodes = refl; room = refl } }

child_below : (g : List Vertex) (v i w : ℕ) → LinksTo g v i w → i < length (links_at g v)
child_below g v i w l = below (links_at g v) i l.link
  where
    below : (xs : List ℕ) (j : ℕ) → nth xs j ≡ Some w → j < length xs
    below [] j e = let z : ◌≡◌ {A = ℕ} 0 1 = cc in absurd (omega arith)
    below (x ∷ xs) zero e = omega arith
    below (x ∷ xs) (suc j) e = omega (arith, below xs j e)

children_more :
    (g : List Vertex) (depth v i w : ℕ) (p q r : State) → Children g depth v i p q → LinksTo g v i w → Went g (depth + 1) w q r → Children g depth v (i + 1) p r
children_more g depth v i w p q r ch link went =
    let s : suc i ≡ i + 1 = omega arith in
    let deeper : depth + 1 ≡ suc depth = omega arith in
    let more : take (i + 1) (links_at g v) ≡ take i (links_at g v) ++ w ∷ [] = ap (λ k. take k (links_at g v)) (sym s) ∙ take_nth (links_at g v) i w link.link in
    record {
      from = λ seen new marks.
          let a = ch.from seen new marks in
          let b = went.from a.met a.marks in
          record {
            tokens = a.tokens ++ b.tokens;
            met = b.met;
            visits = visit_more a.visits (subst (λ k. Visit g 256 k a.met w b.tokens b.met) deeper b.visit) more refl;
            marks = b.marks;
            steps = puts_on p.steps q.steps r.steps p.at q.at a.tokens b.tokens a.steps a.at b.steps;
            at = omega (arith, a.at, b.at, length-append a.tokens b.tokens);
          };
      anchors = λ u. went.anchors u ∙ ch.anchors u;
      weighs = omega (arith, ch.weighs, went.weighs);
    }

pub going_more :
    (g : List Vertex) (depth v i w : ℕ) (a b c : Walk) → Going g depth v i a b → LinksTo g v i w → Went g (depth + 1) w (state_of b) (state_of c) → SameTables b c
    → Going g depth v (i + 1) a c
going_more g depth v i w a b c so link went same =
    record {
      children = children_more g depth v i w (state_of a) (state_of b) (state_of c) so.children link went;
      tables = record {
        counting = so.tables.counting ∙ same.counting;
        steps = so.tables.steps ∙ same.steps;
        nodes = same.nodes ∙ so.tables.nodes;
        room = same.room ∙ so.tables.room;
      };
    }

-- What the routines for collections share: the collection v was opened from p to q by its first step.
module _ (g : List Vertex) (kind : NodeKind) (depth v : ℕ) (p q : State) (can : CanOpen g kind depth v p) (coll : is_collection kind ≡ true) (lt : depth < 256) (began : Stepped First v p q) where
  is : is_collection can.vertex.look.kind ≡ true
  is = ap is_collection can.kind ∙ coll

  marks_begun : (seen : List ℕ) → Marks p.counting (v ∷ seen) → Marks q.counting (v ∷ seen)
  marks_begun seen marks = subst (λ (t : List Counted). Marks t (v ∷ seen)) (sym began.counting) marks

  -- all its links are visited, and it is left
  pub opened : (i : ℕ) (r e : State) → Children g depth v i q r → i ≡ length (links_at g v) → Stepped Leave v r e → Opening g depth v p e
  opened i r e ch all left =
      let whole : take i (links_at g v) ≡ can.vertex.links = take_all i (links_at g v) (omega (arith, all)) ∙ links_are g v can.vertex can.there in
      let one : q.at ≡ suc p.at = omega (arith, began.count) in
      record {
        from = λ seen new marks.
            let a = ch.from seen new (marks_begun seen marks) in
            let inner = a.tokens ++ leave v ∷ [] in
            record {
              tokens = first v ∷ inner;
              met = a.met;
              visit = visit_into new can.there is lt (subst (λ (xs : List ℕ). Visits g 256 (suc depth) (v ∷ seen) xs a.tokens a.met) whole a.visits) refl;
              marks = subst (λ (t : List Counted). Marks t a.met) (sym left.counting) a.marks;
              steps = puts_on q.steps r.steps e.steps q.at r.at a.tokens (leave v ∷ []) a.steps a.at left.wrote
                  ∙ ap (λ k. puts q.steps k inner) one ∙ ap (λ (z : List Step). puts z (suc p.at) inner) began.wrote;
              at = omega (arith, a.at, began.count, left.count, length-append a.tokens (leave v ∷ []));
            };
        anchors = λ w. ap (λ (t : List Counted). (entry_at t w).anchor) left.counting ∙ ch.anchors w ∙ ap (λ (t : List Counted). (entry_at t w).anchor) began.counting;
        weighs = omega (arith, ch.weighs, all, began.count, left.count, ap (weighed g) began.counting, ap (weighed g) left.counting);
      }

  -- below one of its links it is too deep
  pub no_opening_below : (i w : ℕ) (r : State) → Children g depth v i q r → LinksTo g v i w → NoWay g (depth + 1) w r → NoOpening g depth v p
  no_opening_below i w r ch link none =
      let deeper : depth + 1 ≡ suc depth = omega arith in
      let parts : can.vertex.links ≡ take i (links_at g v) ++ (w ∷ drop (suc i) (links_at g v)) =
      sym (links_are g v can.vertex can.there) ∙ sym (take-append-drop i (links_at g v)) ∙ ap (λ (xs : List ℕ). take i (links_at g v) ++ xs) (drop_nth (links_at g v) i w link.link) in
      λ seen new marks.
      let a = ch.from seen new (marks_begun seen marks) in
      deep_below new can.there is lt
      (deep_at (drop (suc i) (links_at g v)) a.visits (subst (λ k. IsTooDeep g 256 k a.met w) deeper (none a.met a.marks)) parts)

  -- what the visit of its next link needs
  pub can_visit_child : (i w : ℕ) (r : State) → Children g depth v i q r → LinksTo g v i w → length r.counting ≡ length q.counting → CanVisit g (depth + 1) w r
  can_visit_child i w r ch link long =
      record {
        inside = link.inside;
        room = omega (arith, long, ap length began.counting, can.room);
        depth_fits = omega arith;
        few = omega (arith, ch.weighs, can.few, began.count, ap (weighed g) began.counting, child_below g v i w link);
      }

  -- its last step can be counted
  pub end_few : (i : ℕ) (r : State) → Children g depth v i q r → i ≤ length (links_at g v) → r.at ≤ weighed g r.counting
  end_few i r ch few = omega (arith, ch.weighs, can.few, began.count, ap (weighed g) began.counting)

pub no_opening_here : (g : List Vertex) (kind : NodeKind) (depth v : ℕ) (p : State) → CanOpen g kind depth v p → is_collection kind ≡ true → 256 ≤ depth → NoOpening g depth v p
no_opening_here g kind depth v p can coll deep = λ seen new marks. deep_here new can.there (ap is_collection can.kind ∙ coll) deep

-- A mapping's links are read in pairs: the pair at a place, from 0, is a key and its value.
pub record Pair (g : List Vertex) (v i : ℕ) (pair : List ℕ) : Type 0 where
  pub key : LinksTo g v (2 * i) (get_or pair 0 0)
  pub value : LinksTo g v (2 * i + 1) (get_or pair 1 0)

pub pair_links :
    (g : List Vertex) (v : ℕ) (ws : List ℕ) (ps : List (List ℕ)) (i : ℕ) → HasLinks g v ws → ps ≡ first_chunks 2 (length ws / 2) ws → length ps ≡ length ws / 2
    → i < length ps → Pair g v i (get_or ps i [])
pair_links g v ws ps i h cut long lt =
    let at : (k : ℕ) → ℕ = λ k. get_or (get_or ps i []) k 0 in
    let key : get_or ws (2 * i) 0 ≡ at 0 = sym (ap (λ (qs : List (List ℕ)). get_or (get_or qs i []) 0 0) cut ∙ key_at (length ws / 2) i ws (omega arith)) in
    let value : get_or ws (2 * i + 1) 0 ≡ at 1 = sym (ap (λ (qs : List (List ℕ)). get_or (get_or qs i []) 1 0) cut ∙ value_at (length ws / 2) i ws (omega arith)) in
    record {
      key = subst (λ w. LinksTo g v (2 * i) w) key (link_at g v ws (2 * i) h (omega arith));
      value = subst (λ w. LinksTo g v (2 * i + 1) w) value (link_at g v ws (2 * i + 1) h (omega arith));
    }

-- one more pair is visited
pub pair_done : (g : List Vertex) (depth v i : ℕ) (a b : Walk) → Going g depth v ((2 * i + 1) + 1) a b → Going g depth v (2 * (i + 1)) a b
pair_done g depth v i a b so = let two : (2 * i + 1) + 1 ≡ 2 * (i + 1) = omega arith in subst (λ k. Going g depth v k a b) two so

-- a mapping has as many keys as values
pub links_paired : (b : Book) (depth v : ℕ) (p : State) → SoundBook b → CanOpen b.nodes Mapping depth v p → length (links_at b.nodes v) % 2 ≡ 0
links_paired b depth v p s can =
    let x = can.vertex in
    ap (λ (xs : List ℕ). length xs % 2) (links_are b.nodes v x can.there)
    ∙ paired x.look.kind x.look.value x.links (vertex_at_lem b s v x can.there).by_kind can.kind
