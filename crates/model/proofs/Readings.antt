-- Reading and writing in any format undo one another.
use Rattle.std.proofs.Common.{◌≡◌, ℕ, zero, suc, pred, ◌+◌, ◌≤◌, true, List, [], ◌∷◌, ◌++◌, length, take, drop, Some, None, Option, sym, refl, ap, ◌∙◌, ap₂, add-zero, arith}
use Rattle.std.proofs.lemmas.Bool.{and_parts, and_from}
use Rattle.std.proofs.lemmas.List.{take-append-drop, length-take, drop_at, flat_map_more}
use Rattle.model.specs.declared.Cause.{Cause}
use Rattle.model.specs.declared.Fault.{Fault}
use Rattle.model.specs.declared.Cause.TheVariants.{HeadCut, HeadNotAllowed, TextsCut, ZeroByte, NotALine}
use Rattle.model.specs.Events.{Ev, allowed, all_allowed, cause_number}
use Rattle.model.specs.Reading.{Coming, Front, nothing, event, fault, marked_at, ended, faulty, before, by_front, reading, read_all, events_of, fault_number, write_all, Format}

-- no fault is numbered 0
pub no_fault : (f : Option Fault) → fault_number f ≡ 0 → f ≡ None
no_fault None h = refl
no_fault (Some f) h = absurd (numbered f.cause h)
  where
    numbered : (c : Cause) → cause_number c ≡ 0 → ⊥
    numbered HeadCut h = omega arith
    numbered HeadNotAllowed h = omega arith
    numbered TextsCut h = omega arith
    numbered ZeroByte h = omega arith
    numbered NotALine h = omega arith

pub all_push : (es : List Ev) (e : Ev) → all_allowed es ≡ true → allowed e ≡ true → all_allowed (es ++ e ∷ []) ≡ true
all_push [] e h a = and_from (allowed e) true a refl
all_push (x ∷ es) e h a = and_from (allowed x) (all_allowed (es ++ e ∷ [])) (and_parts (allowed x) (all_allowed es) h).0 (all_push es e (and_parts (allowed x) (all_allowed es) h).1 a)

module _ {write : Ev → List ℕ} {front : List ℕ → Front} (format : Format write front) where
  -- an event at the front has a byte at least, and its bytes are there
  pub front_size : (e : Ev) (n : ℕ) (bs : List ℕ) → front bs ≡ event e n → (1 ≤ n) × (n ≤ length bs)
  front_size e n bs h =
      let p = format.only_written e n bs h in
      (omega (arith, p.1, format.not_empty e), omega (arith, p.1, length-take n bs, ap length p.2))

  -- bytes that belong to an event already told are passed over
  pub reading_skip : (skip place count : ℕ) (bs : List ℕ) → reading front skip place count bs ≡ reading front 0 (place + skip) count (drop skip bs)
  unfolding reading
  reading_skip zero place count [] = refl
  reading_skip (suc skip) place count [] = refl
  reading_skip zero place count (b ∷ bs) = ap (λ p. reading front 0 p count (b ∷ bs)) (sym (add-zero place))
  reading_skip (suc skip) place count (b ∷ bs) =
      reading_skip skip (suc place) count bs ∙ ap (λ p. reading front 0 p count (drop skip bs)) (omega arith)

  -- where an event stands at the front, it comes, and what comes after its bytes
  pub reading_event : (e : Ev) (n place count : ℕ) (bs : List ℕ) → front bs ≡ event e n → reading front 0 place count bs ≡ before (marked_at place count n e) (reading front 0 (place + n) (suc count) (drop n bs))
  unfolding reading
  reading_event e n place count [] h = let same : nothing ≡ event e n = sym format.nothing_is_empty ∙ h in cc
  reading_event e zero place count (b ∷ bs) h = let p = (format.only_written e zero (b ∷ bs) h).1 in absurd (omega (arith, p, format.not_empty e))
  reading_event e (suc m) place count (b ∷ bs) h =
      ap (λ f. by_front f place count (λ n. reading front (pred n) (suc place) (suc count) bs)) h
      ∙ ap (before (marked_at place count (suc m) e)) (reading_skip m (suc place) (suc count) bs ∙ ap (λ p. reading front 0 p (suc count) (drop m bs)) (omega arith))

  pub reading_fault : (c : Cause) (place count : ℕ) (bs : List ℕ) → front bs ≡ fault c → reading front 0 place count bs ≡ faulty c place
  unfolding reading
  reading_fault c place count [] h = let same : nothing ≡ fault c = sym format.nothing_is_empty ∙ h in cc
  reading_fault c place count (b ∷ bs) h = ap (λ f. by_front f place count (λ n. reading front (pred n) (suc place) (suc count) bs)) h

  pub reading_nothing : (place count : ℕ) (bs : List ℕ) → front bs ≡ nothing → reading front 0 place count bs ≡ ended
  unfolding reading
  reading_nothing place count [] h = refl
  reading_nothing place count (b ∷ bs) h = ap (λ f. by_front f place count (λ n. reading front (pred n) (suc place) (suc count) bs)) h

  -- what was written is read back: exactly these events, and then nothing
  pub read_written : (es : List Ev) (place count : ℕ) → all_allowed es ≡ true → (events_of (reading front 0 place count (write_all write es)) ≡ es) × ((reading front 0 place count (write_all write es)).after ≡ None)
  read_written [] place count h = let e = reading_nothing place count [] format.nothing_is_empty in (ap events_of e, ap (λ c. c.after) e)
  read_written (e ∷ es) place count h =
      let n : ℕ = length (write e) in
      let rest : List ℕ = write_all write es in
      let step : reading front 0 place count (write e ++ rest) ≡ before (marked_at place count n e) (reading front 0 (place + n) (suc count) rest) =
      reading_event e n place count (write e ++ rest) (format.reads_back e rest (and_parts (allowed e) (all_allowed es) h).0)
      ∙ ap (λ bs. before (marked_at place count n e) (reading front 0 (place + n) (suc count) bs)) (drop_at (write e) rest n refl) in
      let more = read_written es (place + n) (suc count) (and_parts (allowed e) (all_allowed es) h).1 in
      (ap events_of step ∙ ap (λ l. e ∷ l) more.0, ap (λ c. c.after) step ∙ more.1)

  -- what comes is allowed
  pub coming_allowed : (skip place count : ℕ) (bs : List ℕ) → all_allowed (events_of (reading front skip place count bs)) ≡ true
  unfolding reading
  coming_allowed skip place count [] = refl
  coming_allowed (suc skip) place count (b ∷ bs) = coming_allowed skip (suc place) count bs
  coming_allowed zero place count (b ∷ bs) = by_front_lem (front (b ∷ bs)) refl (λ n. coming_allowed (pred n) (suc place) (suc count) bs)
    where
      by_front_lem : (f : Front) → front (b ∷ bs) ≡ f → ((n : ℕ) → all_allowed (events_of (reading front (pred n) (suc place) (suc count) bs)) ≡ true) → all_allowed (events_of (by_front f place count (λ n. reading front (pred n) (suc place) (suc count) bs))) ≡ true
      by_front_lem nothing h more = refl
      by_front_lem (fault c) h more = refl
      by_front_lem (event e n) h more = and_from (allowed e) _ (format.only_written e n (b ∷ bs) h).0 (more n)

  written_step : (e : Ev) (n m : ℕ) (b : ℕ) (bs rest : List ℕ) → n ≡ suc m → take n (b ∷ bs) ≡ write e → drop m bs ≡ rest → b ∷ bs ≡ write e ++ rest
  written_step e n m b bs rest p t d = sym (take-append-drop (suc m) (b ∷ bs)) ∙ ap₂ ◌++◌ (ap (λ k. take k (b ∷ bs)) (sym p) ∙ t) d

  -- what is read to its end, writing gives back byte for byte
  pub whole_written : (skip place count : ℕ) (bs : List ℕ) → skip ≤ length bs → (reading front skip place count bs).after ≡ None → drop skip bs ≡ write_all write (events_of (reading front skip place count bs))
  unfolding reading
  whole_written zero place count [] l h = refl
  whole_written (suc skip) place count [] l h = refl
  whole_written (suc skip) place count (b ∷ bs) l h = whole_written skip (suc place) count bs (omega arith) h
  whole_written zero place count (b ∷ bs) l h = by_front_lem (front (b ∷ bs)) refl h (λ n. whole_written (pred n) (suc place) (suc count) bs)
    where
      rest : ℕ → Coming
      rest n = reading front (pred n) (suc place) (suc count) bs

      by_front_lem : (f : Front) → front (b ∷ bs) ≡ f → (by_front f place count rest).after ≡ None
          → ((n : ℕ) → pred n ≤ length bs → (rest n).after ≡ None → drop (pred n) bs ≡ write_all write (events_of (rest n)))
          → b ∷ bs ≡ write_all write (events_of (by_front f place count rest))
      by_front_lem nothing h w more = format.empty_is_nothing (b ∷ bs) h
      by_front_lem (fault c) h w more = cc
      by_front_lem (event e n) h w more =
          let p = format.only_written e n (b ∷ bs) h in
          let size = front_size e n (b ∷ bs) h in
          let some : n ≡ suc (pred n) = omega arith in
          written_step e n (pred n) b bs _ some p.2 (more n (omega arith) w)

  -- one event more, behind bytes that are read to their end
  pub one_more_lem : (bs : List ℕ) (e : Ev) → fault_number (read_all front bs).after ≡ 0 → allowed e ≡ true
      → (events_of (read_all front (bs ++ write e)) ≡ events_of (read_all front bs) ++ e ∷ []) × (fault_number (read_all front (bs ++ write e)).after ≡ 0)
  one_more_lem bs e whole a =
      let es : List Ev = events_of (read_all front bs) in
      let is : bs ≡ write_all write es = whole_written 0 0 0 bs (omega arith) (no_fault (read_all front bs).after whole) in
      let more : bs ++ write e ≡ write_all write (es ++ e ∷ []) = ap (λ l. l ++ write e) is ∙ flat_map_more write [] es e in
      let all = all_push es e (coming_allowed 0 0 0 bs) a in
      let r = read_written (es ++ e ∷ []) 0 0 all in
      (ap (λ l. events_of (read_all front l)) more ∙ r.0, ap (λ l. fault_number (read_all front l).after) more ∙ ap fault_number r.1)
