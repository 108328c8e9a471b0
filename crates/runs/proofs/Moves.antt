-- How what the sink holds goes on when events are taken.
use Rattle.std.proofs.Common.{◌≡◌, ℕ, ◌+◌, Bool, true, false, ◌||◌, eqb, ◌⊎◌, List, [], ◌∷◌, ◌++◌, sym, refl, ap, ◌∙◌, subst, ap₂, inl, inr, arith}
use Rattle.std.specs.List.{flat_map}
use Rattle.std.proofs.lemmas.List.{append_assoc, append-nil}
use Rattle.std.proofs.lemmas.Bool.{or_parts, both_ways}
use Rattle.model.specs.declared.EventKind.TheVariants.{StreamStart, StreamEnd, DocumentStart}
use Rattle.model.specs.Events.{Ev, kind_number}
use Rattle.serial.specs.Numbering.{anchor_of}
use Rattle.runs.specs.Writer.{State, Due, due_of, events, stream_start, stream_end, walk_dues, book_dues, total, has_kind, Took}
use Rattle.runs.specs.Holds.{Piece, events_of, start_of, end_of, Unopened, Standing, Ended, Broken}
use Rattle.runs.proofs.Wanted.{events_append, walk_events_lem, book_events_lem, kind_append, book_no_end}

-- a flag that a list leaves, and one that it sets
kept : (x b y : Bool) (v : Bool) → y ≡ (x || b) → b ≡ false → x ≡ v → y ≡ v
kept true b y v e f g = e ∙ g
kept false b y v e f g = e ∙ f ∙ g

raised : (x b y : Bool) → y ≡ (x || b) → x ≡ true → y ≡ true
raised true b y e f = e
raised false b y e f = absurd (both_ways false refl f)

risen : (x b y : Bool) → y ≡ (x || b) → b ≡ true → y ≡ true
risen true b y e f = e
risen false b y e f = e ∙ f

-- no event was taken
pub none_taken : {weight : Ev → ℕ} {s t : State} → Took weight s [] t → t.spoilt ≡ s.spoilt → t ≡ s
none_taken {s = s} {t = t} k spoilt = λ i. record {
  opened = kept s.opened false t.opened s.opened k.opened refl refl i;
  closed = kept s.closed false t.closed s.closed k.closed refl refl i;
  spoilt = spoilt i;
  taken = (k.taken ∙ append-nil s.taken) i;
  room = room i;
}
  where
    room : t.room ≡ s.room
    room = omega (arith, k.room)

-- taking several events is taking the first and then the others
pub record Parted (weight : Ev → ℕ) (s : State) (d : Due) (ds : List Due) (t : State) : Type 0 where
  pub mid : State
  pub front : Took weight s (d ∷ []) mid
  pub rest : Took weight mid ds t
  pub spoilt : mid.spoilt ≡ s.spoilt

or_shift : (x a b : Bool) → (x || (a || b)) ≡ ((x || (a || false)) || b)
or_shift true a b = refl
or_shift false true b = refl
or_shift false false b = refl

pub parted : (weight : Ev → ℕ) (s : State) (d : Due) (ds : List Due) (t : State) → Took weight s (d ∷ ds) t → Parted weight s d ds t
parted weight s d ds t k = record {
  mid = record {
    opened = s.opened || has_kind StreamStart (d ∷ []);
    closed = s.closed || has_kind StreamEnd (d ∷ []);
    spoilt = s.spoilt;
    taken = s.taken ++ d.event ∷ [];
    room = t.room + total weight ds;
  };
  front = record { taken = refl; room = omega (arith, k.room); opened = refl; closed = refl };
  rest = record {
    taken = k.taken ∙ sym (append_assoc s.taken (d.event ∷ []) (events ds));
    room = refl;
    opened = k.opened ∙ or_shift s.opened (eqb (kind_number d.event.kind) 1) (has_kind StreamStart ds);
    closed = k.closed ∙ or_shift s.closed (eqb (kind_number d.event.kind) 2) (has_kind StreamEnd ds);
  };
  spoilt = refl;
}

-- events that break off before the next one: none of them was taken, or the first was
pub cut_cases : {X : Type 0} (done : List X) (y : X) (left : List X) (x : X) (rest : List X) → done ++ y ∷ left ≡ x ∷ rest
    → (done ≡ []) ⊎ ((others : List X) × (done ≡ x ∷ others) × (others ++ y ∷ left ≡ rest))
cut_cases [] y left x rest e = inl refl
cut_cases (d ∷ done) y left x rest e =
    let same : d ≡ x = cc in
    let tail : done ++ y ∷ left ≡ rest = cc in
    inr (done, ap (λ z. z ∷ done) same, tail)

pub no_cut : {X : Type 0} (done : List X) (y : X) (left : List X) → done ++ y ∷ left ≡ [] → ⊥
no_cut [] y left e = cc
no_cut (d ∷ done) y left e = cc

-- what breaks off before the last of some events is a beginning of those before the last
pub cut_before_last : {X : Type 0} (done : List X) (y : X) (left : List X) (xs : List X) (x : X) → done ++ y ∷ left ≡ xs ++ x ∷ [] → (later : List X) × (done ++ later ≡ xs)
cut_before_last [] y left xs x e = (xs, refl)
cut_before_last (d ∷ done) y left [] x e = let tail : done ++ y ∷ left ≡ [] = cc in absurd (no_cut done y left tail)
cut_before_last (d ∷ done) y left (z ∷ xs) x e =
    let same : d ≡ z = cc in
    let tail : done ++ y ∷ left ≡ xs ++ x ∷ [] = cc in
    let r = cut_before_last done y left xs x tail in
    (r.0, ap₂ (λ a as'. a ∷ as') same r.1)

joined_push : (ps : List Piece) (p : Piece) → flat_map events_of (ps ++ p ∷ []) ≡ flat_map events_of ps ++ events_of p
joined_push [] p = append-nil (events_of p)
joined_push (q ∷ ps) p = ap (λ xs. events_of q ++ xs) (joined_push ps p) ∙ sym (append_assoc (events_of q) (flat_map events_of ps) (events_of p))

-- the due events of a document
abbrev pub dues_of : Piece → List Due
dues_of p = book_dues p.book p.tokens

-- the stream's start
pub start_taken : (weight : Ev → ℕ) (s t : State) → Unopened s → Took weight s (due_of 0 stream_start ∷ []) t → t.spoilt ≡ s.spoilt → Standing t []
start_taken weight s t u k spoilt = record {
  opened = risen s.opened true t.opened k.opened refl;
  closed = kept s.closed false t.closed false k.closed refl u.closed;
  spoilt = spoilt ∙ u.spoilt;
  taken = k.taken ∙ ap (λ xs. xs ++ stream_start ∷ []) u.taken;
}

-- a whole document
pub book_taken : (weight : Ev → ℕ) (s t : State) (ps : List Piece) (p : Piece) → Standing s ps → Took weight s (dues_of p) t → t.spoilt ≡ s.spoilt → Standing t (ps ++ p ∷ [])
book_taken weight s t ps p h k spoilt = record {
  opened = raised s.opened (has_kind StreamStart (dues_of p)) t.opened k.opened h.opened;
  closed = kept s.closed (has_kind StreamEnd (dues_of p)) t.closed false k.closed (book_no_end p.book p.tokens) h.closed;
  spoilt = spoilt ∙ h.spoilt;
  taken = k.taken ∙ ap₂ (λ xs ys. xs ++ ys) h.taken (book_events_lem p.book p.tokens) ∙ ap (λ xs. stream_start ∷ xs) (sym (joined_push ps p));
}

-- the stream's end
pub end_taken : (weight : Ev → ℕ) (s t : State) (ps : List Piece) → Standing s ps → Took weight s (due_of 0 stream_end ∷ []) t → t.spoilt ≡ s.spoilt → Ended t ps
end_taken weight s t ps h k spoilt = record {
  opened = raised s.opened false t.opened k.opened h.opened;
  closed = risen s.closed true t.closed k.closed refl;
  spoilt = spoilt ∙ h.spoilt;
  taken = k.taken ∙ ap (λ xs. xs ++ stream_end ∷ []) h.taken;
}

-- the beginning of a document
pub book_broken : (weight : Ev → ℕ) (s t : State) (ps : List Piece) (p : Piece) (done : List Due) (next_one : Due) (left : List Due)
    → Standing s ps → done ++ next_one ∷ left ≡ dues_of p → Took weight s done t → t.spoilt ≡ (s.spoilt || has_kind DocumentStart done) → (t ≡ s) ⊎ Broken t ps p
book_broken weight s t ps p done next_one left h split k spoilt = by (cut_cases done next_one left _ _ split)
  where
    walk : List Due
    walk = walk_dues (anchor_of p.book.nodes) p.book.nodes p.tokens

    start : Due
    start = due_of 0 (start_of p)

    no_end : (others : List Due) → others ++ next_one ∷ left ≡ walk ++ due_of 0 (end_of p) ∷ [] → has_kind StreamEnd (start ∷ others) ≡ false
    no_end others e = (or_parts (has_kind StreamEnd (start ∷ others)) (has_kind StreamEnd (next_one ∷ left))
        (sym (kind_append StreamEnd (start ∷ others) (next_one ∷ left)) ∙ ap (λ xs. has_kind StreamEnd (start ∷ xs)) e ∙ book_no_end p.book p.tokens)).0

    by : (done ≡ []) ⊎ ((others : List Due) × (done ≡ start ∷ others) × (others ++ next_one ∷ left ≡ walk ++ due_of 0 (end_of p) ∷ [])) → (t ≡ s) ⊎ Broken t ps p
    by (inl e) = inl (none_taken (subst (λ ds. Took weight s ds t) e k) (kept s.spoilt (has_kind DocumentStart done) t.spoilt s.spoilt spoilt (ap (has_kind DocumentStart) e) refl))
    by (inr r) =
        let others = r.0 in
        let took : Took weight s (start ∷ others) t = subst (λ ds. Took weight s ds t) r.1 k in
        let before-end = cut_before_last others next_one left walk (due_of 0 (end_of p)) r.2 in
        inr (record {
          opened = raised s.opened (has_kind StreamStart (start ∷ others)) t.opened took.opened h.opened;
          closed = kept s.closed (has_kind StreamEnd (start ∷ others)) t.closed false took.closed (no_end others r.2) h.closed;
          spoilt = risen s.spoilt (has_kind DocumentStart done) t.spoilt spoilt (ap (has_kind DocumentStart) r.1);
          came = events others;
          later = events before-end.0;
          split = sym (events_append others before-end.0) ∙ ap events before-end.1 ∙ walk_events_lem (anchor_of p.book.nodes) p.book.nodes p.tokens;
          taken = took.taken ∙ ap (λ xs. xs ++ (start_of p ∷ events others)) h.taken;
        })
