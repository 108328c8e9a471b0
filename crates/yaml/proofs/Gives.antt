-- What a source over bytes in any format gives, by what stands at their front.
use Rattle.std.proofs.Common.{◌≡◌, ℕ, suc, List, Some, None, Ok, Err, Option, sym, refl, ap, ◌∙◌, arith}
use Rattle.model.specs.declared.Cause.{Cause}
use Rattle.model.specs.declared.Fault.{Fault}
use Rattle.model.specs.declared.Mark.{Mark}
use Rattle.model.specs.Events.{Ev}
use Rattle.model.specs.Reading.{Coming, Front, nothing, event, fault, marked_at, before, reading, read_all, Format}
use Rattle.model.proofs.Readings.{reading_event, reading_fault, reading_nothing}
use Rattle.yaml.specs.declared.place.Cursor.{Cursor}
use Rattle.yaml.specs.Flow.{Flow, Gave}
use Rattle.yaml.specs.Places.{coming_at, Begins, Passed}
use Rattle.yaml.specs.Shapes.{head_with}

abbrev pub flowing : Option Ev → Coming → Flow
flowing latest coming = record { latest = latest; coming = coming }

-- at the front of an input all of it comes
pub all_comes : (front : List ℕ → Front) (bytes : List ℕ) (c : Cursor) → Begins bytes c → coming_at front c ≡ read_all front bytes
all_comes front bytes c b = λ i. reading front 0 (b.place i) (b.count i) (b.rest i)

module _ {write : Ev → List ℕ} {front : List ℕ → Front} (format : Format write front) (latest : Option Ev) (c : Cursor) where
  -- where an event stands at the front, its head is given, and what comes is what is left behind it
  pub gave_event : (e : Ev) (n : ℕ) (marks : Mark × Mark) (c' : Cursor) → front c.rest.now ≡ event e n → Passed c n marks c'
      → Gave (flowing latest (coming_at front c)) (Ok (Some (head_with e marks.0 marks.1))) (flowing (Some e) (coming_at front c'))
  gave_event e n marks c' h p =
      let one : c'.count ≡ suc c.count = omega (arith, p.count) in
      let r = reading_event format e n c.place c.count c.rest.now h ∙ ap (before (marked_at c.place c.count n e)) (sym (λ i. reading front 0 (p.place i) (one i) (p.rest i))) in (
        marked_at c.place c.count n e,
        record { first = ap (λ c. c.events) r; lasting = sym (ap (λ c. c.after) r); latest = refl },
        λ i. head_with e (p.start i) (p.end i),
      )

  pub gave_nothing : front c.rest.now ≡ nothing → Gave (flowing latest (coming_at front c)) (Ok None) (flowing latest (coming_at front c))
  gave_nothing h =
      let r = reading_nothing format c.place c.count c.rest.now h in
      record { none_left = ap (λ c. c.events) r; told = ap (λ c. c.after) r; same = refl }

  pub gave_fault : (cause : Cause) (f : Fault) → front c.rest.now ≡ fault cause → f ≡ record { cause = cause; place = c.place } → Gave (flowing latest (coming_at front c)) (Err f) (flowing latest (coming_at front c))
  gave_fault cause f h is =
      let r = reading_fault format cause c.place c.count c.rest.now h in
      record { none_left = ap (λ d. d.events) r; told = ap (λ d. d.after) r ∙ ap Some (sym is); same = refl }
