-- What a call would hand on: its events, how many they are and of which kinds; and only one list fits.
use Rattle.std.proofs.Common.{◌≡◌, ℕ, zero, suc, ◌+◌, Bool, true, false, cond, ◌||◌, eqb, List, [], ◌∷◌, ◌++◌, map, length, Some, None, Option, sym, refl, ap, ◌∙◌, inl, inr, arith}
use Rattle.std.proofs.lemmas.List.{map-append, length-map}
use Rattle.std.proofs.lemmas.Bool.{or_from, both_ways}
use Rattle.model.specs.declared.EventKind.{EventKind}
use Rattle.model.specs.declared.EventKind.TheVariants.{StreamStart, StreamEnd, DocumentStart, DocumentEnd}
use Rattle.model.specs.declared.NodeKind.{NodeKind}
use Rattle.model.specs.declared.NodeKind.TheVariants.{Scalar, Sequence, Mapping}
use Rattle.model.specs.Events.{Ev, kind_number}
use Rattle.model.specs.Graph.{Vertex, Book, numbered}
use Rattle.serial.specs.Walk.{Token, first, again, leave, Spot, spot, among, Step, Steps, Walk}
use Rattle.serial.specs.Numbering.{anchor_of}
use Rattle.serial.specs.Serialize.{plain, token_events, walk_events, book_events, start_kind, end_kind}
use Rattle.serial.proofs.Determined.{walk_same}
use Rattle.runs.specs.Writer.{State, Call, opening, closing, dumping, Question, AllYes, FirstNo, Due, event_of, events, due_of, start_due, node_of, token_dues, walk_dues, book_dues, Dumps, empty, walked, Wants, total, has_kind}

-- the events alone
events_of_node : (v : ℕ) (es : List Ev) → events (map (due_of v) es) ≡ es
events_of_node v [] = refl
events_of_node v (e ∷ es) = ap (λ xs. e ∷ xs) (events_of_node v es)

pub events_append : (xs ys : List Due) → events (xs ++ ys) ≡ events xs ++ events ys
events_append xs ys = map-append event_of xs ys

pub walk_events_lem : (anchors : ℕ → List ℕ) (g : List Vertex) (ts : List Token) → events (walk_dues anchors g ts) ≡ walk_events anchors g ts
walk_events_lem anchors g [] = refl
walk_events_lem anchors g (t ∷ ts) =
    events_append (token_dues anchors g t) (walk_dues anchors g ts)
    ∙ ap (λ xs. xs ++ events (walk_dues anchors g ts)) (events_of_node (node_of t) (token_events anchors g t))
    ∙ ap (λ xs. token_events anchors g t ++ xs) (walk_events_lem anchors g ts)

pub book_events_lem : (b : Book) (ts : List Token) → events (book_dues b ts) ≡ book_events b ts
book_events_lem b ts =
    let walk : List Due = walk_dues (anchor_of b.nodes) b.nodes ts in
    let end : Ev = plain DocumentEnd (cond b.end_implicit 1 0) in
    ap (λ xs. plain DocumentStart (cond b.start_implicit 1 0) ∷ xs)
    (events_append walk (due_of 0 end ∷ []) ∙ ap (λ xs. xs ++ end ∷ []) (walk_events_lem (anchor_of b.nodes) b.nodes ts))

-- how many, and of which sizes
pub length_events : (ds : List Due) → length (events ds) ≡ length ds
length_events ds = length-map ds event_of

pub total_append : (weight : Ev → ℕ) (xs ys : List Due) → total weight (xs ++ ys) ≡ total weight xs + total weight ys
total_append weight [] ys = omega arith
total_append weight (x ∷ xs) ys = omega (arith, total_append weight xs ys)

-- which kinds
pub kind_append : (k : EventKind) (xs ys : List Due) → has_kind k (xs ++ ys) ≡ (has_kind k xs || has_kind k ys)
kind_append k [] ys = refl
kind_append k (x ∷ xs) ys = or_assoc (eqb (kind_number x.event.kind) (kind_number k)) (has_kind k xs) (has_kind k ys) (kind_append k xs ys)
  where
    or_assoc : (a b c : Bool) {d : Bool} → d ≡ (b || c) → (a || d) ≡ ((a || b) || c)
    or_assoc true b c e = refl
    or_assoc false b c e = e

-- the kinds of a stream and of a document are not those of a node
pub data Outer : EventKind → Type 0 where
  starts_stream : Outer StreamStart
  ends_stream : Outer StreamEnd
  document_start : Outer DocumentStart
  document_end : Outer DocumentEnd

start_inner : {k : EventKind} → Outer k → (n : NodeKind) → eqb (kind_number (start_kind n)) (kind_number k) ≡ false
start_inner starts_stream Scalar = refl
start_inner starts_stream Sequence = refl
start_inner starts_stream Mapping = refl
start_inner ends_stream Scalar = refl
start_inner ends_stream Sequence = refl
start_inner ends_stream Mapping = refl
start_inner document_start Scalar = refl
start_inner document_start Sequence = refl
start_inner document_start Mapping = refl
start_inner document_end Scalar = refl
start_inner document_end Sequence = refl
start_inner document_end Mapping = refl

end_inner : {k : EventKind} → Outer k → (n : NodeKind) → eqb (kind_number (end_kind n)) (kind_number k) ≡ false
end_inner starts_stream Scalar = refl
end_inner starts_stream Sequence = refl
end_inner starts_stream Mapping = refl
end_inner ends_stream Scalar = refl
end_inner ends_stream Sequence = refl
end_inner ends_stream Mapping = refl
end_inner document_start Scalar = refl
end_inner document_start Sequence = refl
end_inner document_start Mapping = refl
end_inner document_end Scalar = refl
end_inner document_end Sequence = refl
end_inner document_end Mapping = refl

alias_inner : {k : EventKind} → Outer k → eqb 5 (kind_number k) ≡ false
alias_inner starts_stream = refl
alias_inner ends_stream = refl
alias_inner document_start = refl
alias_inner document_end = refl

token_kinds : {k : EventKind} → Outer k → (anchors : ℕ → List ℕ) (g : List Vertex) (t : Token) → has_kind k (token_dues anchors g t) ≡ false
token_kinds {k} o anchors g (first v) = by (numbered g v) refl
  where
    by : (x : Option Vertex) → numbered g v ≡ x → has_kind k (token_dues anchors g (first v)) ≡ false
    by None e = rw e refl
    by (Some x) e = rw e (or_from _ _ (start_inner o x.look.kind) refl)
token_kinds o anchors g (again v) = or_from _ _ (alias_inner o) refl
token_kinds {k} o anchors g (leave v) = by (numbered g v) refl
  where
    by : (x : Option Vertex) → numbered g v ≡ x → has_kind k (token_dues anchors g (leave v)) ≡ false
    by None e = rw e refl
    by (Some x) e = rw e (or_from _ _ (end_inner o x.look.kind) refl)

pub walk_kinds : {k : EventKind} → Outer k → (anchors : ℕ → List ℕ) (g : List Vertex) (ts : List Token) → has_kind k (walk_dues anchors g ts) ≡ false
walk_kinds o anchors g [] = refl
walk_kinds {k} o anchors g (t ∷ ts) = kind_append k (token_dues anchors g t) (walk_dues anchors g ts) ∙ or_from _ _ (token_kinds o anchors g t) (walk_kinds o anchors g ts)

-- a document's events open and close no stream
pub book_no_start : (b : Book) (ts : List Token) → has_kind StreamStart (book_dues b ts) ≡ false
book_no_start b ts = kind_append StreamStart (walk_dues (anchor_of b.nodes) b.nodes ts) _ ∙ or_from _ _ (walk_kinds starts_stream (anchor_of b.nodes) b.nodes ts) refl

pub book_no_end : (b : Book) (ts : List Token) → has_kind StreamEnd (book_dues b ts) ≡ false
book_no_end b ts = kind_append StreamEnd (walk_dues (anchor_of b.nodes) b.nodes ts) _ ∙ or_from _ _ (walk_kinds ends_stream (anchor_of b.nodes) b.nodes ts) refl

-- only one list of events fits a call
pub no_walk_empty : {g : List Vertex} {d : ℕ} {ts : List Token} {seen : List ℕ} → g ≡ [] → Walk g d ts seen → ⊥
no_walk_empty {g} {d} {ts} {seen} e w = stuck w.steps refl refl refl
  where
    no_node : (v : ℕ) (x : Vertex) → numbered g v ≡ Some x → ⊥
    no_node v x h = none_at v (rw e at h)
      where
        none_at : (v : ℕ) → numbered [] v ≡ Some x → ⊥
        none_at zero h = cc
        none_at (suc v) h = cc

    step : {s s' : List Spot} {n n' : List ℕ} {t : Token} → Step g s n t s' n' → s ≡ spot 0 (1 ∷ []) ∷ [] → n ≡ [] → ⊥
    step (Step.met {v = v} {seen = n} a) p q = both_ways (among v n) (ap (among v) q) a
    step (Step.leaf {v = v} {x = x} a h c) p q = no_node v x h
    step (Step.into {v = v} {x = x} a h c) p q = no_node v x h
    step Step.out p q = cc

    stuck : {s s' : List Spot} {n n' : List ℕ} {us : List Token} → Steps g d s n s' n' us → s ≡ spot 0 (1 ∷ []) ∷ [] → n ≡ [] → s' ≡ spot 0 [] ∷ [] → ⊥
    stuck Steps.none p q r = cc
    stuck (Steps.more st l rest) p q r = step st p q

dumps_same : {b : Book} {s : State} {xs ys : List Due} → Dumps b s xs → Dumps b s ys → xs ≡ ys
dumps_same (empty e p) (empty f q) = p ∙ sym q
dumps_same (empty e p) (walked w q) = absurd (no_walk_empty e w)
dumps_same (walked w p) (empty f q) = absurd (no_walk_empty f w)
dumps_same {b} {s} (walked w p) (walked v q) = p ∙ ap (λ ts. start_due s.opened ++ book_dues b ts) (walk_same w v).0 ∙ sym q

pub wants_same : (c : Call) (s : State) (xs ys : List Due) → Wants c s xs → Wants c s ys → xs ≡ ys
wants_same opening s xs ys p q = p ∙ sym q
wants_same closing s xs ys p q = p ∙ sym q
wants_same (dumping h) s xs ys p q = dumps_same p q

-- questions are not all answered yes where one is not
pub passes_not_fails : (s : State) (qs : List Question) (n : ℕ) → AllYes s qs → FirstNo s qs n → ⊥
passes_not_fails s [] n a f = f
passes_not_fails s (q ∷ qs) n a (inl f) = f.0 a.0
passes_not_fails s (q ∷ qs) n a (inr f) = passes_not_fails s qs n a.1 f.1

-- only one number is told
pub one_number : (s : State) (qs : List Question) (n m : ℕ) → FirstNo s qs n → FirstNo s qs m → n ≡ m
one_number s [] n m f g = absurd f
one_number s (q ∷ qs) n m (inl f) (inl g) = f.1 ∙ sym g.1
one_number s (q ∷ qs) n m (inl f) (inr g) = absurd (f.0 g.0)
one_number s (q ∷ qs) n m (inr f) (inl g) = absurd (g.0 f.0)
one_number s (q ∷ qs) n m (inr f) (inr g) = one_number s qs n m f.1 g.1
