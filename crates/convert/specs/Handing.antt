-- What handing on a source's events to a sink does.
use Rattle.std.specs.Prelude.{◌≡◌, ℕ, ◌+◌, ◌<◌, List, [], ◌∷◌, ◌++◌, map, length, take, drop, Some, None, Ok, Err, Result}
use Rattle.model.specs.Events.{Ev}
use Rattle.model.specs.Reading.{Marked, bare}
use Rattle.yaml.specs.declared.sink.Refusal.{Refusal}
use Rattle.yaml.specs.declared.sink.Refusal.TheVariants.{NotAllowed, NoSpace}
use Rattle.yaml.specs.Flow.{Flow}
use Rattle.yaml.specs.View.{View}
use Rattle.convert.specs.declared.convert.Converted.{Converted}
use Rattle.convert.specs.declared.convert.Unconverted.{Unconverted}
use Rattle.convert.specs.declared.convert.Unconverted.TheVariants.{Faulty, Refused}

-- the sizes of some events, added up
abbrev pub total : (Ev → ℕ) → List Ev → ℕ
total weight [] = 0
total weight (e ∷ es) = weight e + total weight es

-- the first n events to come
abbrev pub first_ones : ℕ → Flow → List Ev
first_ones n f = map bare (take n f.coming.events)

-- the first n events to come were handed on: the sink took just these, in order, and its space fell by their sizes
pub record HandedOn (weight : Ev → ℕ) (f₀ : Flow) (v₀ : View) (n : ℕ) (v : View) : Type 0 where
  pub taken : v.taken ≡ v₀.taken ++ first_ones n f₀
  pub room : v.room + total weight (first_ones n f₀) ≡ v₀.room

-- all of them were, and the source is at its end, which is told
pub record AllHanded (f₀ : Flow) (n : ℕ) (f : Flow) : Type 0 where
  pub all : n ≡ length f₀.coming.events
  pub none_left : f.coming.events ≡ []
  pub lasting : f.coming.after ≡ f₀.coming.after

-- the next one was larger than the space; it is gone from the source, and the sink does not have it
pub record Stopped (weight : Ev → ℕ) (f₀ : Flow) (n : ℕ) (v : View) (size space : ℕ) (f : Flow) : Type 0 where
  pub refused_one : Marked
  pub next_one : drop n f₀.coming.events ≡ refused_one ∷ f.coming.events
  pub lasting : f.coming.after ≡ f₀.coming.after
  pub size_told : size ≡ weight refused_one.event
  pub space_told : space ≡ v.room
  pub too_large : v.room < weight refused_one.event

abbrev stop : (Ev → ℕ) → Flow → ℕ → View → Refusal → Flow → Type 0
stop weight f₀ n v NotAllowed f = ⊥
stop weight f₀ n v (NoSpace size space) f = Stopped weight f₀ n v size space f

abbrev ending : (Ev → ℕ) → Flow → ℕ → View → Result (Unit {0}) Unconverted → Flow → Type 0
ending weight f₀ n v (Ok u) f = AllHanded f₀ n f × (f₀.coming.after ≡ None)
ending weight f₀ n v (Err (Faulty g)) f = AllHanded f₀ n f × (f₀.coming.after ≡ Some g)
ending weight f₀ n v (Err (Refused r)) f = stop weight f₀ n v r f

-- Exactly the events to come are handed on, up to the end, the fault or the first that does not fit, and the answer tells how many and why no more.
pub record Conversion (weight : Ev → ℕ) (f₀ : Flow) (v₀ : View) (r : Converted) (f : Flow) (v : View) : Type 0 where
  pub handed : HandedOn weight f₀ v₀ r.events v
  pub end : ending weight f₀ r.events v r.end f
