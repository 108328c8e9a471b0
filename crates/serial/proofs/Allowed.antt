-- The events of a walk are allowed, where looks and anchors keep within their limits.
use Rattle.std.proofs.Common.{◌≡◌, ℕ, ◌+◌, ◌/◌, ◌%◌, ◌≤◌, Bool, true, false, cond, not, eqb, ltb, ◌≢◌, List, [], ◌∷◌, ◌++◌, length, Some, None, codes, Option, sym, refl, ap, arith}
use mathlib.Core.List.{Memᴰ}
use Rattle.std.proofs.lemmas.Bool.{le-leb, ne_eqb, and_from, and_parts, cond_both}
use Rattle.model.specs.declared.EventKind.TheVariants.{DocumentStart, DocumentEnd, Alias}
use Rattle.model.specs.declared.NodeKind.{NodeKind}
use Rattle.model.specs.declared.NodeKind.TheVariants.{Scalar, Sequence, Mapping}
use Rattle.model.specs.Events.{Ev, Row, table, within, zero_free, allowed, all_allowed}
use Rattle.model.specs.Graph.{Look, Vertex, numbered}
use Rattle.serial.specs.Walk.{Token, first, again, leave}
use Rattle.serial.specs.Numbering.{number_of, name, anchor_of}
use Rattle.serial.specs.Serialize.{default_tag, same_bytes, start_kind, end_kind, all_flags, flags_of, plain, node_event, alias_event, token_events, walk_events}
use Rattle.serial.specs.Limits.{LookWithin, LooksWithin, AnchorWithin, WalkAllowed, BookAllowed}

within_from : (r : Row) (s f a t v : ℕ) → s ≤ r.most_style → f ≤ r.most_flags → r.least_anchor ≤ a → a ≤ r.most_anchor → t ≤ r.most_tag → v ≤ r.most_value → within r s f a t v ≡ true
within_from r s f a t v p q l m x y =
    and_from _ _ (le-leb _ _ p) (and_from _ _ (le-leb _ _ q) (and_from _ _ (le-leb _ _ l) (and_from _ _ (le-leb _ _ m) (and_from _ _ (le-leb _ _ x) (le-leb _ _ y)))))

flags_within : (l : Look) → flags_of l ≤ all_flags l.kind
flags_within l = cond_both (same_bytes l.tag (default_tag l.kind)) (all_flags l.kind) 0 (λ n. n ≤ all_flags l.kind) (λ _. omega arith) (λ _. omega arith)

node_allowed : (l : Look) (a : List ℕ) → LookWithin l → AnchorWithin a → allowed (node_event a l) ≡ true
node_allowed l a w n =
    and_from _ _ (by_kind l.kind w.style (flags_within l) w.value_length) (and_from _ _ n.no_zero w.tag_zero_free)
  where
    by_kind : (k : NodeKind) → l.style ≤ (table (start_kind k)).most_style → flags_of l ≤ all_flags k → length l.value ≤ (table (start_kind k)).most_value
        → within (table (start_kind k)) l.style (flags_of l) (length a) (length l.tag) (length l.value) ≡ true
    by_kind Scalar s f v = within_from _ _ _ _ _ _ s f (omega arith) n.most w.tag_length v
    by_kind Sequence s f v = within_from _ _ _ _ _ _ s f (omega arith) n.most w.tag_length v
    by_kind Mapping s f v = within_from _ _ _ _ _ _ s f (omega arith) n.most w.tag_length v

alias_allowed : (a : List ℕ) → AnchorWithin a → a ≢ [] → allowed (alias_event a) ≡ true
alias_allowed [] w n = absurd (n refl)
alias_allowed (b ∷ bs) w n = and_from _ _ (within_from (table Alias) 0 0 (length (b ∷ bs)) 0 0 (omega arith) (omega arith) (omega arith) w.most (omega arith) (omega arith)) (and_from _ _ w.no_zero refl)

end_allowed : (k : NodeKind) → allowed (plain (end_kind k) 0) ≡ true
end_allowed Scalar = refl
end_allowed Sequence = refl
end_allowed Mapping = refl

all_append : (xs ys : List Ev) → all_allowed xs ≡ true → all_allowed ys ≡ true → all_allowed (xs ++ ys) ≡ true
all_append [] ys p q = q
all_append (x ∷ xs) ys p q = let h = and_parts (allowed x) (all_allowed xs) p in and_from (allowed x) _ h.0 (all_append xs ys h.1 q)

module _ (g : List Vertex) (anchors : ℕ → List ℕ) (looks : LooksWithin g) (named : (v : ℕ) → AnchorWithin (anchors v)) where
  token_allowed : (t : Token) → ((v : ℕ) → t ≡ again v → anchors v ≢ []) → all_allowed (token_events anchors g t) ≡ true
  token_allowed (again v) given = and_from _ _ (alias_allowed (anchors v) (named v) (given v refl)) refl
  token_allowed (first v) given = by_node (numbered g v) refl
    where
      by_node : (o : Option Vertex) → numbered g v ≡ o → all_allowed (token_events anchors g (first v)) ≡ true
      by_node None e = rw e refl
      by_node (Some x) e = rw e (and_from _ _ (node_allowed x.look (anchors v) (looks v x e) (named v)) refl)
  token_allowed (leave v) given = by_node (numbered g v) refl
    where
      by_node : (o : Option Vertex) → numbered g v ≡ o → all_allowed (token_events anchors g (leave v)) ≡ true
      by_node None e = rw e refl
      by_node (Some x) e = rw e (and_from _ _ (end_allowed x.look.kind) refl)

pub walk_allowed : WalkAllowed
walk_allowed g anchors [] looks named given = refl
walk_allowed g anchors (t ∷ ts) looks named given =
    all_append (token_events anchors g t) (walk_events anchors g ts) (token_allowed g anchors looks named t (λ v e. given v (Memᴰ.head (sym e))))
    (walk_allowed g anchors ts looks named (λ v m. given v (Memᴰ.tail m)))

-- the anchors that serializing gives
digit_zero_free : (n : ℕ) (bs : List ℕ) → zero_free bs ≡ true → zero_free ((48 + n) ∷ bs) ≡ true
digit_zero_free n bs h = and_from (not (eqb (48 + n) 0)) (zero_free bs) (ap not (ne_eqb (48 + n) 0 (λ e. omega arith))) h

three_zero_free : (a b c : ℕ) → zero_free ((48 + a) ∷ ((48 + b) ∷ ((48 + c) ∷ []))) ≡ true
three_zero_free a b c = digit_zero_free a ((48 + b) ∷ ((48 + c) ∷ [])) (digit_zero_free b ((48 + c) ∷ []) (digit_zero_free c [] refl))

name_within : (n : ℕ) → AnchorWithin (name n)
name_within n = cond_both (ltb n 1000) _ _ (λ bs. AnchorWithin (codes "id" ++ bs))
    (λ _. record { most = omega arith; no_zero = three_zero_free (n / 100) (n / 10 % 10) (n % 10) })
    (λ _. record { most = omega arith; no_zero = digit_zero_free (n / 1000) ((48 + n / 100 % 10) ∷ ((48 + n / 10 % 10) ∷ ((48 + n % 10) ∷ []))) (three_zero_free (n / 100 % 10) (n / 10 % 10) (n % 10)) })

pub anchor_within : (g : List Vertex) (v : ℕ) → AnchorWithin (anchor_of g v)
anchor_within g v = cond_both (eqb (number_of g v) 0) [] (name (number_of g v)) AnchorWithin (λ _. record { most = omega arith; no_zero = refl }) (λ _. name_within (number_of g v))

flag_allowed : (b : Bool) → (allowed (plain DocumentStart (cond b 1 0)) ≡ true) × (allowed (plain DocumentEnd (cond b 1 0)) ≡ true)
flag_allowed true = (refl, refl)
flag_allowed false = (refl, refl)

pub book_allowed : BookAllowed
book_allowed b ts looks given =
    and_from _ _ (flag_allowed b.start_implicit).0
    (all_append (walk_events (anchor_of b.nodes) b.nodes ts) _ (walk_allowed b.nodes (anchor_of b.nodes) ts looks (anchor_within b.nodes) given)
    (and_from _ _ (flag_allowed b.end_implicit).1 refl))
