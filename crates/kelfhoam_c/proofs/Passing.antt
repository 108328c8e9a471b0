-- Documents passed over, one by one.
use Rattle.std.proofs.Common.{◌≡◌, ℕ, zero, suc, ◌-◌, ◌≤◌, true, false, is_some, Option, Some, None, Ok, sym, refl, ap, ◌∙◌, arith}
use Rattle.std.proofs.lemmas.Bool.{both_ways}
use Rattle.yaml.specs.Flow.{Flow}
use Rattle.composer.specs.State.{Lengths}
use Rattle.loader.specs.declared.answer.Loaded.{Loaded}
use Rattle.loader.specs.declared.answer.Phase.{Phase}
use Rattle.loader.specs.Loading.{Answer, Outcome, loading}
use Rattle.kelfhoam_c.specs.Loading.{unless_loaded, after_documents}

module _ (l : Lengths) (phase : Phase) (f : Flow) where
  -- a document was loaded: the rest goes on from there
  pub passed_over : (n : ℕ) (d : Option Loaded) (phase' : Phase) (f' : Flow) → is_some d ≡ true → Ok d ≡ (loading l phase f).answer → phase' ≡ (loading l phase f).phase → f' ≡ (loading l phase f).flow
      → after_documents n l phase' f' ≡ after_documents (suc n) l phase f
  unfolding after_documents
  passed_over n None phase' f' some a p q = absurd (both_ways false refl some)
  passed_over n (Some d) phase' f' some a p q =
      (λ i. after_documents n l (p i) (q i))
      ∙ ap (λ x. unless_loaded x (loading l phase f) (after_documents n l (loading l phase f).phase (loading l phase f).flow)) a

  -- no document was loaded: that answer stands
  pub stands : (n : ℕ) (x : Answer) → ((o next : Outcome) → unless_loaded x o next ≡ o) → x ≡ (loading l phase f).answer → x ≡ (after_documents n l phase f).answer
  unfolding after_documents
  stands zero x last a = a
  stands (suc n) x last a =
      let next = after_documents n l (loading l phase f).phase (loading l phase f).flow in
      a ∙ ap (λ o. o.answer) (sym (last (loading l phase f) next) ∙ ap (λ y. unless_loaded y (loading l phase f) next) a)

  pub ended : (n : ℕ) (d : Option Loaded) → is_some d ≡ false → Ok d ≡ (loading l phase f).answer → Ok None ≡ (after_documents n l phase f).answer
  ended n None none a = stands n (Ok None) (λ o next. refl) a
  ended n (Some d) none a = absurd (both_ways true none refl)

  -- none is left to pass over
  pub none_left : (n k : ℕ) → n ≤ k → (loading l phase f).answer ≡ (after_documents (n - k) l phase f).answer
  unfolding after_documents
  none_left n k h = let none : 0 ≡ n - k = omega arith in ap (λ m. (after_documents m l phase f).answer) none
