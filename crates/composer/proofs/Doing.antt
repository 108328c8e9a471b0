-- What each step on the tables comes to, by what it did to the stacks.
use Rattle.std.proofs.Common.{◌≡◌, ℕ, ◌+◌, ◌-◌, ◌<◌, ◌≤◌, min, List, [], ◌∷◌, ◌++◌, length, take, drop, Some, None, Ok, Option, Result, sym, refl, ap, ◌∙◌, subst, arith, length-set}
use Rattle.std.proofs.lemmas.List.{append_assoc}
use Rattle.std.proofs.lemmas.Bool.{lt-ltb, le-leb, cond-true}
use Rattle.model.specs.declared.NodeKind.{NodeKind}
use Rattle.model.specs.declared.Mark.{Mark}
use Rattle.model.specs.Graph.{numbered}
use Rattle.tables.specs.declared.stack.Stack.{Stack}
use Rattle.tables.specs.declared.stack.Full.{Full}
use Rattle.tables.specs.Stacks.{contents, room_of, Topped, Pushed, Grown, Extended, Shortened}
use Rattle.tables.proofs.Clean.{clean_topped, clean_grown, clean_shortened}
use Rattle.document.specs.declared.node.Node.{Node}
use Rattle.document.specs.Empty.{empty_node}
use Rattle.composer.specs.declared.anchor.Anchor.{Anchor}
use Rattle.composer.specs.declared.frames.Frame.{Frame}
use Rattle.composer.specs.declared.frames.Frames.{Frames}
use Rattle.composer.specs.declared.stacks.Tables.{Tables}
use Rattle.composer.specs.Names.{empty_anchor, entry_of, found}
use Rattle.composer.specs.Opens.{opens, innermost, outer, one_more_child, children_of}
use Rattle.composer.specs.State.{St}
use Rattle.composer.specs.Steps.{naming_by, closed_by, noding_with, node_from, registering, adding_to, adding, closing, linked, linked_at}
use Rattle.composer.specs.Holding.{state_of, spaces_of, Done, Relinked}

-- what an accepted call did to its stack
pub surely_topped : {X : Type 0} (before after : Stack X) (x : X) (r : Result (Unit {0}) Full) (u : Unit {0}) → r ≡ Ok u → Pushed before x r after → Topped before x after
surely_topped before after x r u is p = subst (λ q. Pushed before x q after) is p

pub surely_grown : {X : Type 0} (before after : Stack X) (xs : List X) (r : Result (Unit {0}) Full) (u : Unit {0}) → r ≡ Ok u → Extended before xs r after → Grown before xs after
surely_grown before after xs r u is e = subst (λ q. Extended before xs q after) is e

module _ (t : Tables) where
  -- a node and its texts
  pub noded : (k : NodeKind) (style : ℕ) (tag value : List ℕ) (start end : Mark) (v : Node) (nodes' : Stack Node) (text₁ text₂ : Stack ℕ)
      (few_nodes : length (contents nodes') ≤ 4096) (few_bytes : length (contents text₂) ≤ 65536)
      (few_links : length (contents t.links) + length (contents t.waiting) ≤ min (room_of t.links) 16384) (all_wait : children_of (opens t.frames) ≡ length (contents t.waiting))
      → length (contents t.nodes) < (spaces_of t).nodes → length (contents t.text) + (length tag + length value) ≤ (spaces_of t).text
      → v ≡ node_from k style (length (contents t.text)) (length tag) (length value) start end
      → Grown t.text tag text₁ → Grown text₁ value text₂ → Topped t.nodes v nodes'
      → Done (noding_with (spaces_of t) k style tag value start end (state_of t)) t (record {
        nodes = nodes';
        links = t.links;
        text = text₂;
        anchors = t.anchors;
        waiting = t.waiting;
        frames = t.frames;
        few_nodes = few_nodes;
        few_bytes = few_bytes;
        few_links = few_links;
        all_wait = all_wait;
      })
  noded k style tag value start end v nodes' text₁ text₂ few_nodes few_bytes few_links all_wait few short is g₁ g₂ p =
      let bytes : contents text₂ ≡ contents t.text ++ (tag ++ value) = g₂.holds ∙ ap (λ l. l ++ value) g₁.holds ∙ append_assoc (contents t.text) tag value in
      let holds : contents nodes' ≡ contents t.nodes ++ node_from k style (length (contents t.text)) (length tag) (length value) start end ∷ [] = p.holds ∙ ap (λ x. contents t.nodes ++ x ∷ []) is in
      record {
        state = cond-true _ _ _ (lt-ltb (length (contents t.nodes)) (spaces_of t).nodes few) ∙ cond-true _ _ _ (le-leb (length (contents t.text) + (length tag + length value)) (spaces_of t).text short)
            ∙ (λ i. Ok (record { nodes = sym holds i; links = contents t.links; text = sym bytes i; anchors = contents t.anchors; waiting = contents t.waiting; frames = opens t.frames }));
        base = λ i. record {
          nodes = p.over.table i;
          links = t.links.items.ghost_name;
          text = (g₂.over.table ∙ g₁.over.table) i;
          anchors = t.anchors.items.ghost_name;
          waiting = t.waiting.items.ghost_name;
          lengths = record { nodes = p.over.room i; links = room_of t.links; text = (g₂.over.room ∙ g₁.over.room) i; anchors = room_of t.anchors; waiting = room_of t.waiting };
        };
        clean = λ c. record {
          nodes = clean_topped empty_node t.nodes nodes' v p c.nodes;
          links = c.links;
          text = clean_grown 0 text₁ text₂ value g₂ (clean_grown 0 t.text text₁ tag g₁ c.text);
          anchors = c.anchors;
          waiting = c.waiting;
        };
      }

  -- an anchor
  pub registered : (bytes : List ℕ) (start : Mark) (a : Anchor) (anchors' : Stack Anchor)
      (few_nodes : length (contents t.nodes) ≤ 4096) (few_bytes : length (contents t.text) ≤ 65536)
      (few_links : length (contents t.links) + length (contents t.waiting) ≤ min (room_of t.links) 16384) (all_wait : children_of (opens t.frames) ≡ length (contents t.waiting))
      → (length bytes ≡ 0 → ⊥) → found (contents t.anchors) bytes ≡ None → length (contents t.anchors) < (spaces_of t).anchors
      → a ≡ entry_of bytes (length (contents t.nodes)) → Topped t.anchors a anchors'
      → Done (registering bytes (spaces_of t) start (state_of t)) t (record {
        nodes = t.nodes;
        links = t.links;
        text = t.text;
        anchors = anchors';
        waiting = t.waiting;
        frames = t.frames;
        few_nodes = few_nodes;
        few_bytes = few_bytes;
        few_links = few_links;
        all_wait = all_wait;
      })
  registered [] start a anchors' few_nodes few_bytes few_links all_wait some unknown few is p = absurd (some refl)
  registered (b ∷ bs) start a anchors' few_nodes few_bytes few_links all_wait some unknown few is p =
      let holds : contents anchors' ≡ contents t.anchors ++ entry_of (b ∷ bs) (length (contents t.nodes)) ∷ [] = p.holds ∙ ap (λ x. contents t.anchors ++ x ∷ []) is in
      record {
        state = ap (λ o. naming_by o (spaces_of t) start (b ∷ bs) (state_of t)) unknown ∙ cond-true _ _ _ (lt-ltb (length (contents t.anchors)) (spaces_of t).anchors few)
            ∙ (λ i. Ok (record { nodes = contents t.nodes; links = contents t.links; text = contents t.text; anchors = sym holds i; waiting = contents t.waiting; frames = opens t.frames }));
        base = λ i. record {
          nodes = t.nodes.items.ghost_name;
          links = t.links.items.ghost_name;
          text = t.text.items.ghost_name;
          anchors = p.over.table i;
          waiting = t.waiting.items.ghost_name;
          lengths = record { nodes = room_of t.nodes; links = room_of t.links; text = room_of t.text; anchors = p.over.room i; waiting = room_of t.waiting };
        };
        clean = λ c. record { nodes = c.nodes; links = c.links; text = c.text; anchors = clean_topped empty_anchor t.anchors anchors' a p c.anchors; waiting = c.waiting };
      }

  -- a child
  adds : (fs : List Frame) (start : Mark) (v : ℕ) (s : St) → 0 < length fs → length s.waiting < (spaces_of t).waiting → length s.links + length s.waiting < (spaces_of t).links
      → adding_to fs (spaces_of t) start v s ≡ Ok (record { nodes = s.nodes; links = s.links; text = s.text; anchors = s.anchors; waiting = s.waiting ++ v ∷ []; frames = one_more_child fs })
  adds [] start v s some few short = absurd (omega arith)
  adds (f ∷ fs) start v s some few short =
      cond-true _ _ _ (lt-ltb (length s.waiting) (spaces_of t).waiting few) ∙ cond-true _ _ _ (lt-ltb (length s.links + length s.waiting) (spaces_of t).links short)

  pub added : (start : Mark) (v : ℕ) (waiting' : Stack ℕ) (frames' : Frames)
      (few_nodes : length (contents t.nodes) ≤ 4096) (few_bytes : length (contents t.text) ≤ 65536)
      (few_links : length (contents t.links) + length (contents waiting') ≤ min (room_of t.links) 16384) (all_wait : children_of (opens frames') ≡ length (contents waiting'))
      → 0 < length (opens t.frames) → length (contents t.waiting) < (spaces_of t).waiting → length (contents t.links) + length (contents t.waiting) < (spaces_of t).links
      → Topped t.waiting v waiting' → opens frames' ≡ one_more_child (opens t.frames)
      → Done (adding (spaces_of t) start v (state_of t)) t (record {
        nodes = t.nodes;
        links = t.links;
        text = t.text;
        anchors = t.anchors;
        waiting = waiting';
        frames = frames';
        few_nodes = few_nodes;
        few_bytes = few_bytes;
        few_links = few_links;
        all_wait = all_wait;
      })
  added start v waiting' frames' few_nodes few_bytes few_links all_wait some few short p o = record {
    state = adds (opens t.frames) start v (state_of t) some few short
        ∙ (λ i. Ok (record { nodes = contents t.nodes; links = contents t.links; text = contents t.text; anchors = contents t.anchors; waiting = sym p.holds i; frames = sym o i }));
    base = λ i. record {
      nodes = t.nodes.items.ghost_name;
      links = t.links.items.ghost_name;
      text = t.text.items.ghost_name;
      anchors = t.anchors.items.ghost_name;
      waiting = p.over.table i;
      lengths = record { nodes = room_of t.nodes; links = room_of t.links; text = room_of t.text; anchors = room_of t.anchors; waiting = p.over.room i };
    };
    clean = λ c. record { nodes = c.nodes; links = c.links; text = c.text; anchors = c.anchors; waiting = clean_topped 0 t.waiting waiting' v p c.waiting };
  }

  -- the end of a collection
  closes : (fs : List Frame) (f : Frame) (end : Mark) (s : St) → Some f ≡ innermost fs
      → closing fs end s ≡ Ok (closed_by f (outer fs) end s)
  closes [] f end s top = let z : ◌≡◌ {A = ℕ} 0 1 = cc in absurd (omega (arith, z))
  closes (g ∷ fs) f end s top = let same : g ≡ f = cc in ap (λ h. Ok (closed_by h fs end s)) same

  pub closed : (f : Frame) (end : Mark) (first from : ℕ) (nodes' : Stack Node) (links' waiting' : Stack ℕ) (frames' : Frames)
      (few_nodes : length (contents nodes') ≤ 4096) (few_bytes : length (contents t.text) ≤ 65536)
      (few_links : length (contents links') + length (contents waiting') ≤ min (room_of links') 16384) (all_wait : children_of (opens frames') ≡ length (contents waiting'))
      → Some f ≡ innermost (opens t.frames) → first ≡ length (contents t.links) → from ≡ length (contents t.waiting) - f.children
      → Grown t.links (drop from (contents t.waiting)) links' → Shortened 0 t.waiting from waiting'
      → Relinked t.nodes f.node first f.children end nodes' → opens frames' ≡ outer (opens t.frames)
      → Done (closing (opens t.frames) end (state_of t)) t (record {
        nodes = nodes';
        links = links';
        text = t.text;
        anchors = t.anchors;
        waiting = waiting';
        frames = frames';
        few_nodes = few_nodes;
        few_bytes = few_bytes;
        few_links = few_links;
        all_wait = all_wait;
      })
  closed f end first from nodes' links' waiting' frames' few_nodes few_bytes few_links all_wait top at is g sh r o =
      let ws = contents t.waiting in
      record {
        state = closes (opens t.frames) f end (state_of t) top
            ∙ (λ i. Ok (record {
              nodes = (ap (λ n. linked_at (contents t.nodes) f.node (numbered (contents t.nodes) f.node) n f.children end) (sym at) ∙ sym r.holds) i;
              links = (ap (λ n. contents t.links ++ drop n ws) (sym is) ∙ sym g.holds) i;
              text = contents t.text;
              anchors = contents t.anchors;
              waiting = (ap (λ n. take n ws) (sym is) ∙ sym sh.holds) i;
              frames = sym o i;
            }));
        base = λ i. record {
          nodes = r.over.table i;
          links = g.over.table i;
          text = t.text.items.ghost_name;
          anchors = t.anchors.items.ghost_name;
          waiting = sh.over.table i;
          lengths = record { nodes = r.over.room i; links = g.over.room i; text = room_of t.text; anchors = room_of t.anchors; waiting = sh.over.room i };
        };
        clean = λ c. record {
          nodes = r.clean c.nodes;
          links = clean_grown 0 t.links links' (drop from ws) g c.links;
          text = c.text;
          anchors = c.anchors;
          waiting = clean_shortened 0 t.waiting waiting' from sh c.waiting;
        };
      }

-- how many children the open collections have
pub more_children : (fs : List Frame) → 0 < length fs → children_of (one_more_child fs) ≡ children_of fs + 1
more_children [] some = absurd (omega arith)
more_children (f ∷ fs) some = omega arith

pub top_children_lem : (fs : List Frame) (f : Frame) → Some f ≡ innermost fs → children_of fs ≡ f.children + children_of (outer fs)
top_children_lem [] f top = let z : ◌≡◌ {A = ℕ} 0 1 = cc in absurd (omega (arith, z))
top_children_lem (g ∷ fs) f top = let same : g ≡ f = cc in ap (λ h. h.children + children_of fs) same

-- a node that gets its links takes no other's place
pub same_length : (vs : List Node) (number : ℕ) (o : Option Node) (first count : ℕ) (end : Mark) → length (linked_at vs number o first count end) ≡ length vs
same_length vs number None first count end = refl
same_length vs number (Some v) first count end = length-set vs (number - 1) (linked v first count end)
