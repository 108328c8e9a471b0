-- How the events of a call go on from one writer's state to another.
use Rattle.std.proofs.Common.{◌≡◌, ℕ, ◌+◌, Bool, true, false, ◌||◌, ltb, ◌⊎◌, List, [], ◌∷◌, ◌++◌, length, Ok, Err, Result, is_ok, is_err, sym, refl, ap, ◌∙◌, subst, inl, inr, arith}
use Rattle.std.proofs.lemmas.List.{append_assoc, length-append}
use Rattle.std.proofs.lemmas.Bool.{or_parts, both_ways, lt-ltb, le-ltb}
use Rattle.model.specs.declared.EventKind.{EventKind}
use Rattle.model.specs.declared.EventKind.TheVariants.{StreamStart, StreamEnd, DocumentStart}
use Rattle.model.specs.Events.{Ev}
use Rattle.model.specs.Graph.{Book}
use Rattle.serial.specs.Walk.{Token}
use Rattle.yaml.specs.View.{View}
use Rattle.runs.specs.Writer.{State, Due, events, has_kind, start_due, end_due, book_dues, Took}
use Rattle.runs.proofs.Wanted.{events_append, total_append, kind_append, book_no_start, book_no_end}
use Rattle.runs.proofs.Moves.{cut_cases, no_cut}
use Rattle.dumper.specs.declared.answer.Refused.{Refused}
use Rattle.dumper.specs.Handing.{once_due, AllIn, SomeIn, Hands, all_in, some_in}
use Rattle.dumper.specs.States.{state_by, Went, Broke, Goes, went, broke}

or_none : (x b : Bool) → b ≡ false → x ≡ (x || b)
or_none true b e = refl
or_none false b e = sym e

or_some : (x b : Bool) → b ≡ true → true ≡ (x || b)
or_some true b e = refl
or_some false b e = sym e

or_more : (x a b c : Bool) → c ≡ (a || b) → ((x || a) || b) ≡ (x || c)
or_more true a b c e = refl
or_more false a b c e = sym e

module _ (weight : Ev → ℕ) where
  took_then : {s t u : State} (xs ys : List Due) → Took weight s xs t → Took weight t ys u → Took weight s (xs ++ ys) u
  took_then {s} {t} {u} xs ys a b =
      let r₁ = a.room in
      let r₂ = b.room in
      record {
        taken = b.taken ∙ ap (λ es. es ++ events ys) a.taken ∙ append_assoc s.taken (events xs) (events ys) ∙ ap (λ es. s.taken ++ es) (sym (events_append xs ys));
        room = omega (arith, total_append weight xs ys);
        opened = b.opened ∙ ap (λ x. x || has_kind StreamStart ys) a.opened ∙ or_more s.opened (has_kind StreamStart xs) (has_kind StreamStart ys) (has_kind StreamStart (xs ++ ys)) (kind_append StreamStart xs ys);
        closed = b.closed ∙ ap (λ x. x || has_kind StreamEnd ys) a.closed ∙ or_more s.closed (has_kind StreamEnd xs) (has_kind StreamEnd ys) (has_kind StreamEnd (xs ++ ys)) (kind_append StreamEnd xs ys);
      }

module _ {weight : Ev → ℕ} where
  -- some, which start no document, and then others
  module _ {s t : State} {n m : ℕ} {xs : List Due} (a : Went weight s n xs t m) (no_start : has_kind DocumentStart xs ≡ false) where
    went_then : {u : State} {k : ℕ} {ys : List Due} → Went weight t m ys u k → Went weight s n (xs ++ ys) u k
    went_then {u} {k} {ys} b =
        let c₁ = a.counted in
        let c₂ = b.counted in
        let f₁ = a.few in
        let f₂ = b.few in
        record {
          took = took_then weight xs ys a.took b.took;
          spoilt = b.spoilt ∙ a.spoilt;
          counted = omega (arith, length-append xs ys);
          few = omega arith;
        }

    broke_then : {u : State} {k node size space : ℕ} {ys : List Due} → Broke weight t m ys node size space u k → Broke weight s n (xs ++ ys) node size space u k
    broke_then {u} {k} {ys = ys} b =
        let c₁ = a.counted in
        let c₂ = b.counted in
        record {
          done = xs ++ b.done;
          next_one = b.next_one;
          left = b.left;
          split = ap (λ ds. xs ++ ds) b.split ∙ sym (append_assoc xs b.done (b.next_one ∷ b.left));
          took = took_then weight xs b.done a.took b.took;
          spoilt = b.spoilt ∙ ap (λ x. x || has_kind DocumentStart b.done) a.spoilt
              ∙ ap (λ x. s.spoilt || x) (sym (kind_append DocumentStart xs b.done ∙ ap (λ x. x || has_kind DocumentStart b.done) no_start));
          counted = omega (arith, length-append xs b.done);
          node_told = b.node_told;
          size_told = b.size_told;
          space_told = b.space_told;
          too_large = b.too_large;
        }

    pub goes_then : {u : State} {k : ℕ} {ys : List Due} {r : Result (Unit {0}) Refused} → Goes weight t m ys r u k → Goes weight s n (xs ++ ys) r u k
    goes_then (went e b) = went e (went_then b)
    goes_then (broke e b) = broke e (broke_then b)

  broke_before : {s t : State} {n m node size space : ℕ} {xs : List Due} (ys : List Due) → Broke weight s n xs node size space t m → Broke weight s n (xs ++ ys) node size space t m
  broke_before ys b = record {
    done = b.done;
    next_one = b.next_one;
    left = b.left ++ ys;
    split = ap (λ ds. ds ++ ys) b.split ∙ append_assoc b.done (b.next_one ∷ b.left) ys;
    took = b.took;
    spoilt = b.spoilt;
    counted = b.counted;
    node_told = b.node_told;
    size_told = b.size_told;
    space_told = b.space_told;
    too_large = b.too_large;
  }

  module _ {s t : State} {n m : ℕ} {xs : List Due} where
    pub goes_before : {c : Refused} (ys : List Due) → Goes weight s n xs (Err c) t m → Goes weight s n (xs ++ ys) (Err c) t m
    goes_before ys (went e b) = cc
    goes_before ys (broke e b) = broke e (broke_before ys b)

    pub went_of : {u : Unit {0}} → Goes weight s n xs (Ok u) t m → Went weight s n xs t m
    went_of (went e b) = b
    went_of (broke e b) = cc

    pub goes_left : {r : Result (Unit {0}) Refused} {c : Refused} → ((x : Refused) × (r ≡ Err x) × (x ≡ c)) → Goes weight s n xs (Err c) t m → Goes weight s n xs r t m
    goes_left p h = subst (λ q. Goes weight s n xs q t m) (sym (p.1 ∙ ap Err p.2)) h

    pub goes_as : {ys : List Due} {r : Result (Unit {0}) Refused} → xs ≡ ys → Goes weight s n xs r t m → Goes weight s n ys r t m
    goes_as {r = r} e h = subst (λ ds. Goes weight s n ds r t m) e h

-- what breaks off before the end of a document
none_in : (b : Book) (ts : List Token) (k : EventKind) (done : List Due) (next_one : Due) (left : List Due) → book_dues b ts ≡ done ++ next_one ∷ left → has_kind k (book_dues b ts) ≡ false → has_kind k done ≡ false
none_in b ts k done next_one left e h = (or_parts (has_kind k done) (has_kind k (next_one ∷ left)) (sym (ap (has_kind k) e ∙ kind_append k done (next_one ∷ left)) ∙ h)).0

-- it began where its first event, its start, was taken
begun : (x : Due) (rest : List Due) (n m : ℕ) (p q : Bool) (done : List Due) (next_one : Due) (left : List Due)
    → has_kind DocumentStart (x ∷ []) ≡ true → x ∷ rest ≡ done ++ next_one ∷ left → p ≡ false → q ≡ ltb n m → m ≡ n + length done → q ≡ (p || has_kind DocumentStart done)
begun x rest n m p q done next_one left starts e none is count = by (cut_cases done next_one left x rest (sym e))
  where
    first_starts : (a b : Bool) → (a || false) ≡ true → (a || b) ≡ true
    first_starts true b h = refl
    first_starts false b h = absurd (both_ways false refl h)

    by : (done ≡ []) ⊎ ((others : List Due) × (done ≡ x ∷ others) × (others ++ next_one ∷ left ≡ rest)) → q ≡ (p || has_kind DocumentStart done)
    by (inl f) =
        let long : length done ≡ 0 = ap length f in
        is ∙ le-ltb n m (omega arith) ∙ sym none ∙ or_none p (has_kind DocumentStart done) (ap (has_kind DocumentStart) f)
    by (inr r) =
        let long : length done ≡ length (x ∷ r.0) = ap length r.1 in
        is ∙ lt-ltb n m (omega arith) ∙ or_some p (has_kind DocumentStart done) (ap (has_kind DocumentStart) r.1 ∙ first_starts _ (has_kind DocumentStart r.0) starts)

-- one event that starts or ends the stream
module _ {weight : Ev → ℕ} {v v' : View} {n m : ℕ} where
  one_broke : (o c p : Bool) {d : Due} {node size space : ℕ} → SomeIn weight v n (d ∷ []) node size space v' m → Broke weight (state_by o c p v) n (d ∷ []) node size space (state_by o c p v') m
  one_broke o c p {d} {node} {size} {space} b = by (cut_cases b.done b.next_one b.left d [] (sym b.split))
    where
      by : (b.done ≡ []) ⊎ ((others : List Due) × (b.done ≡ d ∷ others) × (others ++ b.next_one ∷ b.left ≡ [])) → Broke weight (state_by o c p v) n (d ∷ []) node size space (state_by o c p v') m
      by (inr q) = absurd (no_cut q.0 b.next_one b.left q.2)
      by (inl e) = record {
        done = b.done;
        next_one = b.next_one;
        left = b.left;
        split = b.split;
        took = record {
          taken = b.all.taken;
          room = b.all.room;
          opened = or_none o (has_kind StreamStart b.done) (ap (has_kind StreamStart) e);
          closed = or_none c (has_kind StreamEnd b.done) (ap (has_kind StreamEnd) e);
        };
        spoilt = or_none p (has_kind DocumentStart b.done) (ap (has_kind DocumentStart) e);
        counted = b.all.counted;
        node_told = b.node_told;
        size_told = b.size_told;
        space_told = b.space_told;
        too_large = b.too_large;
      }

  nothing_goes : (o c p : Bool) {r : Result (Unit {0}) Refused} → Hands weight v n [] r v' m → Goes weight (state_by o c p v) n [] r (state_by o c p v') m
  nothing_goes o c p (all_in e a) =
      went e (record { took = record { taken = a.taken; room = a.room; opened = or_none o false refl; closed = or_none c false refl }; spoilt = refl; counted = a.counted; few = a.few })
  nothing_goes o c p (some_in e s) = absurd (no_cut s.done s.next_one s.left (sym s.split))

  pub start_goes : (o o' c p : Bool) {r : Result (Unit {0}) Refused} → o' ≡ (o || is_ok r) → Hands weight v n (once_due StreamStart o) r v' m
      → Goes weight (state_by o c p v) n (start_due o) r (state_by o' c p v') m
  start_goes true o' c p {r} is h = subst (λ q. Goes weight (state_by true c p v) n [] r (state_by q c p v') m) (sym is) (nothing_goes true c p h)
  start_goes false o' c p is (all_in e a) =
      went e (record { took = record { taken = a.taken; room = a.room; opened = is ∙ ap is_ok e; closed = or_none c false refl }; spoilt = refl; counted = a.counted; few = a.few })
  start_goes false o' c p {r} is (some_in e s) =
      subst (λ q. Goes weight (state_by false c p v) n (start_due false) r (state_by q c p v') m) (sym (is ∙ ap is_ok e)) (broke e (one_broke false c p s))

  pub end_goes : (o c c' p : Bool) {r : Result (Unit {0}) Refused} → c' ≡ (c || is_ok r) → Hands weight v n (once_due StreamEnd c) r v' m
      → Goes weight (state_by o c p v) n (end_due c) r (state_by o c' p v') m
  end_goes o true c' p {r} is h = subst (λ q. Goes weight (state_by o true p v) n [] r (state_by o q p v') m) (sym is) (nothing_goes o true p h)
  end_goes o false c' p is (all_in e a) =
      went e (record { took = record { taken = a.taken; room = a.room; opened = or_none o false refl; closed = is ∙ ap is_ok e }; spoilt = refl; counted = a.counted; few = a.few })
  end_goes o false c' p {r} is (some_in e s) =
      subst (λ q. Goes weight (state_by o false p v) n (end_due false) r (state_by o q p v') m) (sym (is ∙ ap is_ok e)) (broke e (one_broke o false p s))

  -- a document, whole or broken off
  module _ (b : Book) (ts : List Token) where
    book_went : (o c p : Bool) → AllIn weight v n (book_dues b ts) v' m → Went weight (state_by o c p v) n (book_dues b ts) (state_by o c p v') m
    book_went o c p a = record {
      took = record {
        taken = a.taken;
        room = a.room;
        opened = or_none o (has_kind StreamStart (book_dues b ts)) (book_no_start b ts);
        closed = or_none c (has_kind StreamEnd (book_dues b ts)) (book_no_end b ts);
      };
      spoilt = refl;
      counted = a.counted;
      few = a.few;
    }

    book_broke : (o c p q : Bool) {node size space : ℕ} → p ≡ false → q ≡ ltb n m → SomeIn weight v n (book_dues b ts) node size space v' m → Broke weight (state_by o c p v) n (book_dues b ts) node size space (state_by o c q v') m
    book_broke o c p q none is s = record {
      done = s.done;
      next_one = s.next_one;
      left = s.left;
      split = s.split;
      took = record {
        taken = s.all.taken;
        room = s.all.room;
        opened = or_none o (has_kind StreamStart s.done) (none_in b ts StreamStart s.done s.next_one s.left s.split (book_no_start b ts));
        closed = or_none c (has_kind StreamEnd s.done) (none_in b ts StreamEnd s.done s.next_one s.left s.split (book_no_end b ts));
      };
      spoilt = begun _ _ n m p q s.done s.next_one s.left refl s.split none is s.all.counted;
      counted = s.all.counted;
      node_told = s.node_told;
      size_told = s.size_told;
      space_told = s.space_told;
      too_large = s.too_large;
    }

    pub book_kept : (o c p : Bool) {r : Result (Unit {0}) Refused} → is_err r ≡ false → Hands weight v n (book_dues b ts) r v' m → Goes weight (state_by o c p v) n (book_dues b ts) r (state_by o c p v') m
    book_kept o c p kept (all_in e a) = went e (book_went o c p a)
    book_kept o c p kept (some_in e s) = absurd (both_ways _ kept (ap is_err e))

    pub book_cut : (o c p q : Bool) {r : Result (Unit {0}) Refused} → is_err r ≡ true → p ≡ false → q ≡ ltb n m → Hands weight v n (book_dues b ts) r v' m → Goes weight (state_by o c p v) n (book_dues b ts) r (state_by o c q v') m
    book_cut o c p q cut none is (all_in e a) = absurd (both_ways _ (ap is_err e) cut)
    book_cut o c p q cut none is (some_in e s) = broke e (book_broke o c p q none is s)

pub start_no_document : (o : Bool) → has_kind DocumentStart (start_due o) ≡ false
start_no_document true = refl
start_no_document false = refl

-- starting the stream does not end it
start_no_end : (o : Bool) → has_kind StreamEnd (start_due o) ≡ false
start_no_end true = refl
start_no_end false = refl

pub still_closed : {weight : Ev → ℕ} {s t : State} (o : Bool) → Took weight s (start_due o) t → t.closed ≡ s.closed
still_closed {s = s} o k = k.closed ∙ sym (or_none s.closed (has_kind StreamEnd (start_due o)) (start_no_end o))
