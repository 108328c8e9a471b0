-- Over whole runs: the reported events add up to the length of the sink's list, and each call reports and fits as it should.
use Rattle.std.proofs.Common.{◌≡◌, ℕ, ◌+◌, List, [], ◌∷◌, ◌++◌, length, sym, ap, subst, arith}
use Rattle.std.specs.List.{AllByRecursion}
use Rattle.std.proofs.lemmas.List.{length-append}
use Rattle.std.proofs.ByRecursion.{All-push}
use Rattle.yaml.specs.declared.sink.Refusal.TheVariants.{NotAllowed, NoSpace}
use Rattle.model.specs.Events.{Ev}
use Rattle.runs.specs.Writer.{State, Call, Due, events, Took, own, sink, Answer, accepted, refused, reported, Called}
use Rattle.runs.specs.Runs.{Turn, Fresh, Run, reports}
use Rattle.runs.specs.Runs.Run.{none, more}
use Rattle.runs.specs.Counts.{Counts, Fits, Counted}
use Rattle.runs.proofs.Wanted.{length_events}
use Rattle.runs.proofs.Counting.{counts_called}
use Rattle.runs.proofs.Fitting.{turn, fits_called}

took_length : {weight : Ev → ℕ} {s t : State} {done : List Due} → Took weight s done t → length t.taken ≡ length s.taken + length done
took_length {s = s} {done = done} k = omega (arith, ap length k.taken, length-append s.taken (events done), length_events done)

called_length : (weight : Ev → ℕ) (c : Call) (s : State) (a : Answer) (t : State) → Called weight c s a t → length t.taken ≡ length s.taken + reported a
called_length weight c s (accepted n) t k = omega (arith, took_length k.took, k.counted)
called_length weight c s (refused n (own q)) t k = omega (arith, ap (λ x. length x.taken) k.same, k.none_taken)
called_length weight c s (refused n (sink v NotAllowed)) t k = absurd k
called_length weight c s (refused n (sink v (NoSpace size space))) t k = omega (arith, took_length k.took, k.counted)

reports_push : (us : List Turn) (u : Turn) → reports (us ++ u ∷ []) ≡ reports us + reported u.answer
reports_push [] u = omega arith
reports_push (v ∷ us) u = omega (arith, reports_push us u)

run_length : {weight : Ev → ℕ} {start : State} {turns : List Turn} {end : State} → Fresh start → Run weight start turns end → reports turns ≡ length end.taken
run_length f (none e g) = omega (arith, ap reports e, ap (λ x. length x.taken) g, ap length f.nothing_taken)
run_length {weight} f (more {turns = turns} {s = s} {t = t} c a r sound k e) =
    omega (arith, ap reports e, reports_push turns (turn c s a t), called_length weight c s a t k, run_length f r)

run_counts : {weight : Ev → ℕ} {start : State} {turns : List Turn} {end : State} → Run weight start turns end → AllByRecursion Counts turns
run_counts (none e g) = subst (AllByRecursion Counts) (sym e) tt
run_counts {weight} (more {turns = turns} {s = s} {t = t} c a r sound k e) =
    subst (AllByRecursion Counts) (sym e) (All-push Counts turns (turn c s a t) (run_counts r) (counts_called weight c s a t sound k))

pub run_counted : {weight : Ev → ℕ} {start : State} {turns : List Turn} {end : State} → Fresh start → Run weight start turns end → Counted turns end
run_counted f r = record { all = run_length f r; each = run_counts r }

pub run_fits : {weight : Ev → ℕ} {start : State} {turns : List Turn} {end : State} → Run weight start turns end → AllByRecursion (Fits weight) turns
run_fits {weight} (none e g) = subst (AllByRecursion (Fits weight)) (sym e) tt
run_fits {weight} (more {turns = turns} {s = s} {t = t} c a r sound k e) =
    subst (AllByRecursion (Fits weight)) (sym e) (All-push (Fits weight) turns (turn c s a t) (run_fits r) (fits_called weight c s a t k))
