-- What a sink over bytes in any format holds after one event more.
use Rattle.std.proofs.Common.{◌≡◌, ℕ, Bool, true, false, cond, List, [], ◌∷◌, ◌++◌, Some, None, refl, ap, ◌∙◌}
use Rattle.model.specs.Events.{Ev, allowed}
use Rattle.model.specs.Reading.{Front, read_all, events_of, fault_number, Format}
use Rattle.model.proofs.Readings.{one_more_lem}
use Rattle.yaml.specs.View.{size_of}

-- an event that has a size is allowed, and the size is its weight
pub sized : (weight : Ev → ℕ) (e : Ev) (n : ℕ) → Some n ≡ size_of weight e → (allowed e ≡ true) × (n ≡ weight e)
sized weight e n h = by (allowed e) refl h
  where
    by : (b : Bool) → allowed e ≡ b → Some n ≡ cond b (Some (weight e)) None → (allowed e ≡ true) × (n ≡ weight e)
    by true p q = (p, cc)
    by false p q = cc

-- one event more, behind bytes that are read to their end
pub taken_more : {write : Ev → List ℕ} {front : List ℕ → Front} → Format write front → (held held' : List ℕ) (e : Ev)
    → fault_number (read_all front held).after ≡ 0 → allowed e ≡ true → held' ≡ held ++ write e
    → (events_of (read_all front held') ≡ events_of (read_all front held) ++ e ∷ []) × (fault_number (read_all front held').after ≡ 0)
taken_more {front = front} format held held' e whole a is =
    let m = one_more_lem format held e whole a in
    (ap (λ l. events_of (read_all front l)) is ∙ m.0, ap (λ l. fault_number (read_all front l).after) is ∙ m.1)
