-- The packed format is a format: what was written is read back, and only what is written is read.
use Rattle.std.specs.Prelude.{◌≡◌, ℕ, suc, ◌+◌, ◌*◌, ◌/◌, ◌%◌, ◌<◌, ◌≤◌, Bool, true, false, cond, ◌&&◌, List, [], ◌∷◌, ◌++◌, length, take, drop, Some, None, Option, ◌==◌, ◌≢◌, nat_le, nat_lt, refl}
use Rattle.std.proofs.Common.{arith, sym, ap, ◌∙◌, take-add}
use Rattle.std.proofs.lemmas.List.{append_assoc, length-append, length-take-le, length-drop, take_at, drop_at}
use Rattle.std.proofs.lemmas.Bool.{and_parts, and_from, leb-true, le-leb, eqb-true, lt-ltb, ltb-true, cond-true, cond-false}
use Rattle.model.specs.declared.EventKind.{EventKind}
use Rattle.model.specs.declared.EventKind.TheVariants.{StreamStart, StreamEnd, DocumentStart, DocumentEnd, Alias, Scalar, SequenceStart, SequenceEnd, MappingStart, MappingEnd}
use Rattle.model.specs.declared.Cause.{Cause}
use Rattle.model.specs.declared.Cause.TheVariants.{HeadNotAllowed, TextsCut, ZeroByte}
use Rattle.model.specs.Events.{Ev, table, within, zero_free, allowed, kind_number, kind_at}
use Rattle.model.specs.Reading.{Front, nothing, event, fault, Format}
use Rattle.packed.specs.Packed.{head_bytes, packed_of, size_of, event_at, by_head, two_bytes, packed_front}

kind_back : (k : EventKind) → kind_at (kind_number k) ≡ Some k
kind_back StreamStart = refl
kind_back StreamEnd = refl
kind_back DocumentStart = refl
kind_back DocumentEnd = refl
kind_back Alias = refl
kind_back Scalar = refl
kind_back SequenceStart = refl
kind_back SequenceEnd = refl
kind_back MappingStart = refl
kind_back MappingEnd = refl

two_back : (n : ℕ) → two_bytes (n / 256) (n % 256) ≡ n
two_back n = cond-true (nat_lt (n % 256) 256) (256 * (n / 256) + n % 256) 65536 (lt-ltb (n % 256) 256 (omega arith)) ∙ omega arith

pub packed_length : (e : Ev) → length (packed_of e) ≡ size_of e
packed_length e = simp length-append (omega arith)

-- the texts, whatever follows them, are the event's
texts_back : (e : Ev) (bs : List ℕ) → event_at e.kind e.style e.flags (length e.anchor) (length e.tag) (length e.value) ((e.anchor ++ (e.tag ++ e.value)) ++ bs) ≡ e
texts_back e bs =
    let a = e.anchor in
    let t = e.tag in
    let v = e.value in
    let order : (a ++ (t ++ v)) ++ bs ≡ a ++ (t ++ (v ++ bs)) = append_assoc a (t ++ v) bs ∙ ap (λ l. a ++ l) (append_assoc t v bs) in
    let rest₁ : drop (length a) ((a ++ (t ++ v)) ++ bs) ≡ t ++ (v ++ bs) = ap (drop (length a)) order ∙ drop_at a (t ++ (v ++ bs)) (length a) refl in
    let rest₂ : drop (length t) (drop (length a) ((a ++ (t ++ v)) ++ bs)) ≡ v ++ bs = ap (drop (length t)) rest₁ ∙ drop_at t (v ++ bs) (length t) refl in
    let pa : take (length a) ((a ++ (t ++ v)) ++ bs) ≡ a = ap (take (length a)) order ∙ take_at a (t ++ (v ++ bs)) (length a) refl in
    let pt : take (length t) (drop (length a) ((a ++ (t ++ v)) ++ bs)) ≡ t = ap (take (length t)) rest₁ ∙ take_at t (v ++ bs) (length t) refl in
    let pv : take (length v) (drop (length t) (drop (length a) ((a ++ (t ++ v)) ++ bs))) ≡ v = ap (take (length v)) rest₂ ∙ take_at v bs (length v) refl in
    λ i. record { kind = e.kind; style = e.style; flags = e.flags; anchor = pa i; tag = pt i; value = pv i }

-- the head of an allowed event, with its texts behind it
by_head_back : (e : Ev) (bs : List ℕ) → allowed e ≡ true
    → by_head (Some e.kind) e.style e.flags (length e.anchor) (length e.tag) (length e.value) ((e.anchor ++ (e.tag ++ e.value)) ++ bs) ≡ event e (size_of e)
by_head_back e bs h =
    let a = length e.anchor in
    let t = length e.tag in
    let v = length e.value in
    let texts : List ℕ = (e.anchor ++ (e.tag ++ e.value)) ++ bs in
    let p = and_parts (within (table e.kind) e.style e.flags a t v) (zero_free e.anchor && zero_free e.tag) h in
    let found : Ev = event_at e.kind e.style e.flags a t v texts in
    let long : a + (t + v) ≤ length texts = simp length-append (omega arith) in
    let same : found ≡ e = texts_back e bs in
    cond-true (within (table e.kind) e.style e.flags a t v) _ _ p.0
    ∙ cond-true (nat_le (a + (t + v)) (length texts)) _ _ (le-leb (a + (t + v)) (length texts) long)
    ∙ cond-true (zero_free found.anchor && zero_free found.tag) _ _ (ap (λ x. zero_free x.anchor && zero_free x.tag) same ∙ p.1)
    ∙ ap (λ x. event x (size_of e)) same

by_head_cong : {k k' : Option EventKind} {a a' t t' v v' : ℕ} (s f : ℕ) (texts : List ℕ) → k ≡ k' → a ≡ a' → t ≡ t' → v ≡ v' → by_head k s f a t v texts ≡ by_head k' s f a' t' v' texts
by_head_cong s f texts pk pa pt pv = λ i. by_head (pk i) s f (pa i) (pt i) (pv i) texts

reads_back : (e : Ev) (bs : List ℕ) → allowed e ≡ true → packed_front (packed_of e ++ bs) ≡ event e (length (packed_of e))
reads_back e bs h =
    by_head_cong e.style e.flags ((e.anchor ++ (e.tag ++ e.value)) ++ bs) (kind_back e.kind) (two_back (length e.anchor)) (two_back (length e.tag)) (two_back (length e.value))
    ∙ by_head_back e bs h ∙ ap (event e) (sym (packed_length e))

some_kind : (k j : EventKind) → Some k ≡ Some j → k ≡ j
some_kind k j h = cc

none_kind : (j : EventKind) → None ≢ Some j
none_kind j h = cc

peel : (n m : ℕ) (j k : EventKind) (others : Option EventKind) → kind_number j ≡ m → (others ≡ Some k → kind_number k ≡ n) → cond (n == m) (Some j) others ≡ Some k → kind_number k ≡ n
peel n m j k others p more h = by (n == m) refl h
  where
    by : (b : Bool) → (n == m) ≡ b → cond b (Some j) others ≡ Some k → kind_number k ≡ n
    by true q g = let is = eqb-true n m q in cc
    by false q g = more g

-- the kind of a number has that number
number_back : (n : ℕ) (k : EventKind) → kind_at n ≡ Some k → kind_number k ≡ n
number_back n k h =
    peel n 1 StreamStart k _ refl (peel n 2 StreamEnd k _ refl (peel n 3 DocumentStart k _ refl (peel n 4 DocumentEnd k _ refl
    (peel n 5 Alias k _ refl (peel n 6 Scalar k _ refl (peel n 7 SequenceStart k _ refl (peel n 8 SequenceEnd k _ refl
    (peel n 9 MappingStart k _ refl (peel n 10 MappingEnd k None refl (λ g. cc)))))))))) h

fault_no_event : (c : Cause) (e : Ev) (n : ℕ) → fault c ≢ event e n
fault_no_event c e n h = cc

nothing_no_event : (e : Ev) (n : ℕ) → nothing ≢ event e n
nothing_no_event e n h = cc

fault_something : (c : Cause) → fault c ≢ nothing
fault_something c h = cc

event_something : (e : Ev) (n : ℕ) → event e n ≢ nothing
event_something e n h = cc

question : (b : Bool) (yes-front : Front) (c : Cause) → (yes-front ≢ nothing) → cond b yes-front (fault c) ≢ nothing
question true y c more h = more h
question false y c more h = cc

-- a question whose no is a fault was answered yes, and what comes after a yes is the event
asked : (b : Bool) (yes-front : Front) (c : Cause) (e : Ev) (n : ℕ) → cond b yes-front (fault c) ≡ event e n → (b ≡ true) × (yes-front ≡ event e n)
asked true y c e n h = (refl, h)
asked false y c e n h = cc

-- what a head that is taken for an event's says of it
record Headed (k : EventKind) (s f a t v : ℕ) (texts : List ℕ) (e : Ev) (n : ℕ) : Type 0 where
  row : within (table k) s f a t v ≡ true
  long : a + (t + v) ≤ length texts
  free : (zero_free (take a texts) && zero_free (take t (drop a texts))) ≡ true
  is : e ≡ event_at k s f a t v texts
  size : n ≡ 9 + (a + (t + v))

headed : (k : EventKind) (s f a t v : ℕ) (texts : List ℕ) (e : Ev) (n : ℕ) → by_head (Some k) s f a t v texts ≡ event e n → Headed k s f a t v texts e n
headed k s f a t v texts e n h =
    let q₁ = asked (within (table k) s f a t v) _ HeadNotAllowed e n h in
    let q₂ = asked (nat_le (a + (t + v)) (length texts)) _ TextsCut e n q₁.1 in
    let q₃ = asked (zero_free (take a texts) && zero_free (take t (drop a texts))) _ ZeroByte e n q₂.1 in
    let same = q₃.1 in
    record { row = q₁.0; long = leb-true (a + (t + v)) (length texts) q₂.0; free = q₃.0; is = cc; size = cc }

-- a length within the limits is written in the two bytes that it was read from
high_low : (most high low : ℕ) → most ≤ 4096 → two_bytes high low ≤ most → (two_bytes high low / 256 ≡ high) × (two_bytes high low % 256 ≡ low)
high_low most high low m h = by (nat_lt low 256) refl
  where
    by : (b : Bool) → nat_lt low 256 ≡ b → (two_bytes high low / 256 ≡ high) × (two_bytes high low % 256 ≡ low)
    by true q =
        let is : two_bytes high low ≡ 256 * high + low = cond-true (nat_lt low 256) (256 * high + low) 65536 q in
        let small : low < 256 = ltb-true low 256 q in
        (omega arith, omega arith)
    by false q =
        let is : two_bytes high low ≡ 65536 = cond-false (nat_lt low 256) (256 * high + low) 65536 q in
        absurd (omega arith)

-- the greatest lengths of any kind
most_tag : (k : EventKind) → ((table k).most_anchor ≤ 64) × ((table k).most_tag ≤ 256) × ((table k).most_value ≤ 4096)
most_tag StreamStart = (omega arith, omega arith, omega arith)
most_tag StreamEnd = (omega arith, omega arith, omega arith)
most_tag DocumentStart = (omega arith, omega arith, omega arith)
most_tag DocumentEnd = (omega arith, omega arith, omega arith)
most_tag Alias = (omega arith, omega arith, omega arith)
most_tag Scalar = (omega arith, omega arith, omega arith)
most_tag SequenceStart = (omega arith, omega arith, omega arith)
most_tag SequenceEnd = (omega arith, omega arith, omega arith)
most_tag MappingStart = (omega arith, omega arith, omega arith)
most_tag MappingEnd = (omega arith, omega arith, omega arith)

pub record Lengths (a t v : ℕ) : Type 0 where
  pub anchor : a ≤ 64
  pub tag : t ≤ 256
  pub value : v ≤ 4096

-- a head within its row has lengths within the limits
pub lengths : (k : EventKind) (s f a t v : ℕ) → within (table k) s f a t v ≡ true → Lengths a t v
lengths k s f a t v h =
    let r = table k in
    let p₁ = and_parts (nat_le s r.most_style) _ h in
    let p₂ = and_parts (nat_le f r.most_flags) _ p₁.1 in
    let p₃ = and_parts (nat_le r.least_anchor a) _ p₂.1 in
    let p₄ = and_parts (nat_le a r.most_anchor) _ p₃.1 in
    let p₅ = and_parts (nat_le t r.most_tag) _ p₄.1 in
    let m = most_tag k in
    let la = leb-true a r.most_anchor p₄.0 in
    let lt = leb-true t r.most_tag p₅.0 in
    let lv = leb-true v r.most_value p₅.1 in
    record { anchor = omega arith; tag = omega arith; value = omega arith }

-- what was read is what is written for it
written_at : (k : EventKind) (s f a t v : ℕ) (texts : List ℕ) → within (table k) s f a t v ≡ true → a + (t + v) ≤ length texts → (zero_free (take a texts) && zero_free (take t (drop a texts))) ≡ true
    → (allowed (event_at k s f a t v texts) ≡ true) × (9 + (a + (t + v)) ≡ length (packed_of (event_at k s f a t v texts))) × (head_bytes (kind_number k) s f a t v ++ take (a + (t + v)) texts ≡ packed_of (event_at k s f a t v texts))
written_at k s f a t v texts row long free =
    let e = event_at k s f a t v texts in
    let la : length (take a texts) ≡ a = length-take-le a texts (omega arith) in
    let lt : length (take t (drop a texts)) ≡ t = length-take-le t (drop a texts) (simp length-drop (omega arith)) in
    let lv : length (take v (drop t (drop a texts))) ≡ v = length-take-le v (drop t (drop a texts)) (simp (length-drop) (omega arith)) in
    let all : take (a + (t + v)) texts ≡ e.anchor ++ (e.tag ++ e.value) = take-add a (t + v) texts ∙ ap (λ l. take a texts ++ l) (take-add t v (drop a texts)) in
    let head : within (table k) s f (length e.anchor) (length e.tag) (length e.value) ≡ true = (λ i. within (table k) s f (la i) (lt i) (lv i)) ∙ row in (
      and_from (within (table k) s f (length e.anchor) (length e.tag) (length e.value)) (zero_free e.anchor && zero_free e.tag) head free,
      omega (arith, packed_length e),
      (λ i. head_bytes (kind_number k) s f (sym la i) (sym lt i) (sym lv i) ++ all i),
    )

written_back : (k : EventKind) (s f a t v : ℕ) (texts : List ℕ) (e : Ev) (n : ℕ) → Headed k s f a t v texts e n
    → (allowed e ≡ true) × (n ≡ length (packed_of e)) × (head_bytes (kind_number k) s f a t v ++ take (a + (t + v)) texts ≡ packed_of e)
written_back k s f a t v texts e n h =
    let w = written_at k s f a t v texts h.row h.long h.free in
    let same = sym h.is in
    (ap allowed h.is ∙ w.0, h.size ∙ w.1 ∙ ap (λ x. length (packed_of x)) same, w.2 ∙ ap packed_of same)

-- nine bytes and texts that are taken for an event are its bytes
nine : (number : ℕ) (kind : Option EventKind) (s f a1 a0 t1 t0 v1 v0 : ℕ) (texts : List ℕ) (e : Ev) (n : ℕ) → kind_at number ≡ kind
    → by_head kind s f (two_bytes a1 a0) (two_bytes t1 t0) (two_bytes v1 v0) texts ≡ event e n
    → (allowed e ≡ true) × (n ≡ length (packed_of e)) × (take n (number ∷ (s ∷ (f ∷ (a1 ∷ (a0 ∷ (t1 ∷ (t0 ∷ (v1 ∷ (v0 ∷ texts))))))))) ≡ packed_of e)
nine number None s f a1 a0 t1 t0 v1 v0 texts e n p h = cc
nine number (Some k) s f a1 a0 t1 t0 v1 v0 texts e n p h =
    let a = two_bytes a1 a0 in
    let t = two_bytes t1 t0 in
    let v = two_bytes v1 v0 in
    let d = headed k s f a t v texts e n h in
    let w = written_back k s f a t v texts e n d in
    let l = lengths k s f a t v d.row in
    let ra = high_low 64 a1 a0 (omega arith) l.anchor in
    let rt = high_low 256 t1 t0 (omega arith) l.tag in
    let rv = high_low 4096 v1 v0 (omega arith) l.value in
    let number_is : number ≡ kind_number k = sym (number_back number k p) in
    let m : ℕ = a + (t + v) in
    let size : n ≡ suc (suc (suc (suc (suc (suc (suc (suc (suc m)))))))) = omega (arith, d.size) in
    let same : number ∷ (s ∷ (f ∷ (a1 ∷ (a0 ∷ (t1 ∷ (t0 ∷ (v1 ∷ (v0 ∷ take m texts)))))))) ≡ head_bytes (kind_number k) s f a t v ++ take m texts =
    λ i. number_is i ∷ (s ∷ (f ∷ (sym ra.0 i ∷ (sym ra.1 i ∷ (sym rt.0 i ∷ (sym rt.1 i ∷ (sym rv.0 i ∷ (sym rv.1 i ∷ take m texts)))))))) in
    (w.0, w.1, ap (λ j. take j (number ∷ (s ∷ (f ∷ (a1 ∷ (a0 ∷ (t1 ∷ (t0 ∷ (v1 ∷ (v0 ∷ texts)))))))))) size ∙ same ∙ w.2)

Read : List ℕ → Ev → ℕ → Type 0
Read bs e n = (allowed e ≡ true) × (n ≡ length (packed_of e)) × (take n bs ≡ packed_of e)

only_written : (e : Ev) (n : ℕ) (bs : List ℕ) → packed_front bs ≡ event e n → Read bs e n
unfolding Read
only_written e n [] h = cc
only_written e n (k ∷ []) h = cc
only_written e n (k ∷ (s ∷ [])) h = cc
only_written e n (k ∷ (s ∷ (f ∷ []))) h = cc
only_written e n (k ∷ (s ∷ (f ∷ (a1 ∷ [])))) h = cc
only_written e n (k ∷ (s ∷ (f ∷ (a1 ∷ (a0 ∷ []))))) h = cc
only_written e n (k ∷ (s ∷ (f ∷ (a1 ∷ (a0 ∷ (t1 ∷ [])))))) h = cc
only_written e n (k ∷ (s ∷ (f ∷ (a1 ∷ (a0 ∷ (t1 ∷ (t0 ∷ []))))))) h = cc
only_written e n (k ∷ (s ∷ (f ∷ (a1 ∷ (a0 ∷ (t1 ∷ (t0 ∷ (v1 ∷ [])))))))) h = cc
only_written e n (k ∷ (s ∷ (f ∷ (a1 ∷ (a0 ∷ (t1 ∷ (t0 ∷ (v1 ∷ (v0 ∷ texts))))))))) h = nine k (kind_at k) s f a1 a0 t1 t0 v1 v0 texts e n refl h

-- with nine bytes there is a head, and a head is never nothing
by_head_something : (kind : Option EventKind) (s f a t v : ℕ) (texts : List ℕ) → by_head kind s f a t v texts ≢ nothing
by_head_something None s f a t v texts h = cc
by_head_something (Some k) s f a t v texts h =
    let e = event_at k s f a t v texts in
    question (within (table k) s f a t v) _ HeadNotAllowed
    (question (nat_le (a + (t + v)) (length texts)) _ TextsCut
    (question (zero_free (take a texts) && zero_free (take t (drop a texts))) _ ZeroByte (λ h. cc))) h

empty_is_nothing : (bs : List ℕ) → packed_front bs ≡ nothing → bs ≡ []
empty_is_nothing [] h = refl
empty_is_nothing (k ∷ []) h = cc
empty_is_nothing (k ∷ (s ∷ [])) h = cc
empty_is_nothing (k ∷ (s ∷ (f ∷ []))) h = cc
empty_is_nothing (k ∷ (s ∷ (f ∷ (a1 ∷ [])))) h = cc
empty_is_nothing (k ∷ (s ∷ (f ∷ (a1 ∷ (a0 ∷ []))))) h = cc
empty_is_nothing (k ∷ (s ∷ (f ∷ (a1 ∷ (a0 ∷ (t1 ∷ [])))))) h = cc
empty_is_nothing (k ∷ (s ∷ (f ∷ (a1 ∷ (a0 ∷ (t1 ∷ (t0 ∷ []))))))) h = cc
empty_is_nothing (k ∷ (s ∷ (f ∷ (a1 ∷ (a0 ∷ (t1 ∷ (t0 ∷ (v1 ∷ [])))))))) h = cc
empty_is_nothing (k ∷ (s ∷ (f ∷ (a1 ∷ (a0 ∷ (t1 ∷ (t0 ∷ (v1 ∷ (v0 ∷ texts))))))))) h =
    absurd (by_head_something (kind_at k) s f (two_bytes a1 a0) (two_bytes t1 t0) (two_bytes v1 v0) texts h)

pub packed_format : Format packed_of packed_front
unfolding Read
packed_format = record {
  reads_back = reads_back;
  only_written = only_written;
  not_empty = λ e. omega (arith, packed_length e);
  nothing_is_empty = refl;
  empty_is_nothing = empty_is_nothing;
}

-- an allowed event has 9 to 4,425 bytes
pub size_bound : (e : Ev) → allowed e ≡ true → (9 ≤ size_of e) × (size_of e ≤ 4425)
size_bound e h =
    let p = and_parts (within (table e.kind) e.style e.flags (length e.anchor) (length e.tag) (length e.value)) (zero_free e.anchor && zero_free e.tag) h in
    let l = lengths e.kind e.style e.flags (length e.anchor) (length e.tag) (length e.value) p.0 in
    (omega arith, omega arith)
