-- What a sink means, and what handing it an event does.
use Rattle.std.specs.Prelude.{◌≡◌, ℕ, ◌+◌, ◌<◌, ◌≤◌, true, false, cond, List, [], ◌∷◌, ◌++◌, Some, None, Ok, Err, Option, Result}
use Rattle.model.specs.Events.{Ev, allowed}
use Rattle.yaml.specs.declared.sink.Refusal.{Refusal}
use Rattle.yaml.specs.declared.sink.Refusal.TheVariants.{NotAllowed, NoSpace}

pub record View : Type 0 where
  pub taken : List Ev
  pub room : ℕ

-- an allowed event's size lies in 1 to 65,535
abbrev pub Weighs : (Ev → ℕ) → Type 0
Weighs weight = (e : Ev) → allowed e ≡ true → (1 ≤ weight e) × (weight e ≤ 65535)

abbrev pub size_of : (Ev → ℕ) → Ev → Option ℕ
size_of weight e = cond (allowed e) (Some (weight e)) None

-- the event was allowed and fitted: it is appended, and the space falls by its size
pub record Accepted (weight : Ev → ℕ) (before : View) (e : Ev) (after : View) : Type 0 where
  pub was_allowed : allowed e ≡ true
  pub fitted : weight e ≤ before.room
  pub appended : after.taken ≡ before.taken ++ e ∷ []
  pub fallen : after.room + weight e ≡ before.room

-- the event is not allowed; nothing alters
pub record Unfit (before : View) (e : Ev) (after : View) : Type 0 where
  pub not_allowed : allowed e ≡ false
  pub same : after ≡ before

-- the event is allowed and larger than the space; both are told, and nothing alters
pub record Full (weight : Ev → ℕ) (before : View) (e : Ev) (size space : ℕ) (after : View) : Type 0 where
  pub was_allowed : allowed e ≡ true
  pub size_told : size ≡ weight e
  pub space_told : space ≡ before.room
  pub too_large : before.room < weight e
  pub same : after ≡ before

abbrev pub Took : (Ev → ℕ) → View → Ev → Result (Unit {0}) Refusal → View → Type 0
Took weight before e (Ok u) after = Accepted weight before e after
Took weight before e (Err NotAllowed) after = Unfit before e after
Took weight before e (Err (NoSpace size space)) after = Full weight before e size space after

-- the size is told where there is one within the space, and else why the event is refused
abbrev pub Fits : Option ℕ → ℕ → Result ℕ Refusal → Type 0
Fits size space (Ok n) = (size ≡ Some n) × (n ≤ space)
Fits size space (Err NotAllowed) = size ≡ None
Fits size space (Err (NoSpace n s)) = (size ≡ Some n) × (s ≡ space) × (space < n)

-- the number of a sink's refusal
abbrev pub refusal_number : Refusal → ℕ
refusal_number NotAllowed = 31
refusal_number (NoSpace size space) = 32
