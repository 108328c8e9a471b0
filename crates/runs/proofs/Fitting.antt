-- A call that passed its own questions is refused exactly when its events do not fit.
use Rattle.std.proofs.Common.{ℕ, true, false, ◌∷◌, ◌++◌, refl, ap, ◌∙◌, arith}
use Rattle.std.proofs.lemmas.Bool.{both_ways}
use Rattle.yaml.specs.declared.sink.Refusal.TheVariants.{NotAllowed, NoSpace}
use Rattle.model.specs.Events.{Ev}
use Rattle.runs.specs.Writer.{State, Call, events, total, questions, own, sink, Answer, accepted, refused, Accepted, Declined, CutOff, Called}
use Rattle.runs.specs.Runs.{Turn}
use Rattle.runs.specs.Counts.{Fits}
use Rattle.runs.proofs.Wanted.{wants_same, passes_not_fails, total_append}

abbrev pub turn : Call → State → Answer → State → Turn
turn c s a t = record { before = s; call = c; answer = a; after = t }

fits_accepted : (weight : Ev → ℕ) (c : Call) (s : State) (n : ℕ) (t : State) → Accepted weight c s n t → Fits weight (turn c s (accepted n) t)
fits_accepted weight c s n t k = record {
  refused_full = λ ds p w r. absurd (both_ways false refl r);
  full_refused = λ ds p w l. absurd (omega (arith, ap (total weight) (wants_same c s ds k.dues w k.wanted), k.took.room));
  accepted_passed = λ r. k.passed;
  accepted_took = λ ds w r. k.took.taken ∙ ap (λ xs. s.taken ++ events xs) (wants_same c s k.dues ds k.wanted w);
}

fits_declined : (weight : Ev → ℕ) (c : Call) (s : State) (n q : ℕ) (t : State) → Declined c s n q t → Fits weight (turn c s (refused n (own q)) t)
fits_declined weight c s n q t k = record {
  refused_full = λ ds p w r. absurd (passes_not_fails s (questions c) q p k.failed);
  full_refused = λ ds p w l. refl;
  accepted_passed = λ r. absurd (both_ways true r refl);
  accepted_took = λ ds w r. absurd (both_ways true r refl);
}

fits_cut : (weight : Ev → ℕ) (c : Call) (s : State) (n v size space : ℕ) (t : State) → CutOff weight c s n v size space t
    → Fits weight (turn c s (refused n (sink v (NoSpace size space))) t)
fits_cut weight c s n v size space t k = record {
  refused_full = λ ds p w r. omega (
    arith,
    ap (total weight) (wants_same c s ds (k.done ++ k.next_one ∷ k.left) w k.wanted),
    total_append weight k.done (k.next_one ∷ k.left),
    k.took.room,
    k.too_large,
  );
  full_refused = λ ds p w l. refl;
  accepted_passed = λ r. absurd (both_ways true r refl);
  accepted_took = λ ds w r. absurd (both_ways true r refl);
}

pub fits_called : (weight : Ev → ℕ) (c : Call) (s : State) (a : Answer) (t : State) → Called weight c s a t → Fits weight (turn c s a t)
fits_called weight c s (accepted n) t k = fits_accepted weight c s n t k
fits_called weight c s (refused n (own q)) t k = fits_declined weight c s n q t k
fits_called weight c s (refused n (sink v NotAllowed)) t k = absurd k
fits_called weight c s (refused n (sink v (NoSpace size space))) t k = fits_cut weight c s n v size space t k
