-- From a step that is taken to each of its parts.
use Rattle.std.proofs.Common.{◌≡◌, Bool, true, false, cond, Ok, Err, Result, refl}
use Rattle.composer.specs.declared.refusal.Refusal.{Refusal}
use Rattle.composer.specs.State.{St}
use Rattle.composer.specs.Steps.{next}

pub ok_if : (b : Bool) (x : Result St Refusal) (e : Refusal) (t : St) → cond b x (Err e) ≡ Ok t → (b ≡ true) × (x ≡ Ok t)
ok_if true x e t h = (refl, h)
ok_if false x e t h = cc

pub ok_next : (r : Result St Refusal) (f : St → Result St Refusal) (t : St) → next r f ≡ Ok t → (u : St) × (r ≡ Ok u) × (f u ≡ Ok t)
ok_next (Ok u) f t h = (u, refl, h)
ok_next (Err e) f t h = cc
