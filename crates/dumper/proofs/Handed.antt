-- Handing on some events and then others.
use Rattle.std.proofs.Common.{◌≡◌, ℕ, ◌+◌, Bool, true, false, List, [], ◌∷◌, ◌++◌, Ok, Err, Decides, Result, sym, refl, ap, ◌∙◌, subst, arith}
use Rattle.std.proofs.lemmas.List.{append_assoc, append-nil, length-append}
use Rattle.std.proofs.lemmas.Bool.{both_ways}
use Rattle.model.specs.Events.{Ev, allowed}
use Rattle.yaml.specs.declared.sink.Refusal.{Refusal}
use Rattle.yaml.specs.declared.sink.Refusal.TheVariants.{NotAllowed, NoSpace}
use Rattle.yaml.specs.View.{View, Weighs, Accepted, Full, Took}
use Rattle.serial.specs.Serialize.{same_bytes}
use Rattle.serial.proofs.Standing.{bytes_same, bytes_differ}
use Rattle.runs.specs.Writer.{Due, events}
use Rattle.runs.proofs.Wanted.{events_append, total_append}
use Rattle.dumper.specs.declared.answer.Why.TheVariants.{Sink}
use Rattle.dumper.specs.declared.answer.Refused.{Refused}
use Rattle.dumper.specs.Handing.{AllIn, SomeIn, Hands, all_in, some_in}

module _ {weight : Ev → ℕ} {v : View} {n : ℕ} where
  -- one event
  pub one_in : {d : Due} {v' : View} → Weighs weight → Accepted weight v d.event v' → AllIn weight v n (d ∷ []) v' (n + 1)
  one_in {d} {v'} weighs a =
      let heavy = (weighs d.event a.was_allowed).0 in
      let fallen = a.fallen in
      record { taken = a.appended; room = omega arith; counted = refl; few = omega arith }

  -- one event that does not fit
  one_out : {d : Due} {v' : View} {size space : ℕ} → Full weight v d.event size space v' → SomeIn weight v n (d ∷ []) d.node size space v' n
  one_out {d} {v'} {size} {space} full =
      let same = full.same in
      let room : v'.room ≡ v.room = ap (λ x. x.room) same in
      let told = full.space_told in
      let large = full.too_large in
      record {
        done = [];
        next_one = d;
        left = [];
        split = refl;
        all = record { taken = ap (λ x. x.taken) same ∙ sym (append-nil v.taken); room = omega arith; counted = omega arith; few = omega arith };
        node_told = refl;
        size_told = full.size_told;
        space_told = omega arith;
        too_large = omega arith;
      }

  -- some, and then others
  module _ {xs : List Due} {v₁ : View} {m : ℕ} (a : AllIn weight v n xs v₁ m) where
    pub all_then : {ys : List Due} {v₂ : View} {k : ℕ} → AllIn weight v₁ m ys v₂ k → AllIn weight v n (xs ++ ys) v₂ k
    all_then {ys} {v₂} {k} b =
        let r₁ = a.room in
        let r₂ = b.room in
        let c₁ = a.counted in
        let c₂ = b.counted in
        let f₁ = a.few in
        let f₂ = b.few in
        record {
          taken = b.taken ∙ ap (λ es. es ++ events ys) a.taken ∙ append_assoc v.taken (events xs) (events ys) ∙ ap (λ es. v.taken ++ es) (sym (events_append xs ys));
          room = omega (arith, total_append weight xs ys);
          counted = omega (arith, length-append xs ys);
          few = omega arith;
        }

    pub some_then : {ys : List Due} {node size space : ℕ} {v₂ : View} {k : ℕ} → SomeIn weight v₁ m ys node size space v₂ k → SomeIn weight v n (xs ++ ys) node size space v₂ k
    some_then b = record {
      done = xs ++ b.done;
      next_one = b.next_one;
      left = b.left;
      split = ap (λ ds. xs ++ ds) b.split ∙ sym (append_assoc xs b.done (b.next_one ∷ b.left));
      all = all_then b.all;
      node_told = b.node_told;
      size_told = b.size_told;
      space_told = b.space_told;
      too_large = b.too_large;
    }

    pub hands_then : {ys : List Due} {r : Result (Unit {0}) Refused} {v₂ : View} {k : ℕ} → Hands weight v₁ m ys r v₂ k → Hands weight v n (xs ++ ys) r v₂ k
    hands_then (all_in e b) = all_in e (all_then b)
    hands_then (some_in e b) = some_in e (some_then b)

  -- what breaks off among the first of some breaks off among them
  some_before : {xs : List Due} {node size space : ℕ} {v₁ : View} {m : ℕ} (ys : List Due) → SomeIn weight v n xs node size space v₁ m → SomeIn weight v n (xs ++ ys) node size space v₁ m
  some_before ys b = record {
    done = b.done;
    next_one = b.next_one;
    left = b.left ++ ys;
    split = ap (λ ds. ds ++ ys) b.split ∙ append_assoc b.done (b.next_one ∷ b.left) ys;
    all = b.all;
    node_told = b.node_told;
    size_told = b.size_told;
    space_told = b.space_told;
    too_large = b.too_large;
  }

  pub cut_before : {xs : List Due} {c : Refused} {v₁ : View} {m : ℕ} (ys : List Due) → Hands weight v n xs (Err c) v₁ m → Hands weight v n (xs ++ ys) (Err c) v₁ m
  cut_before ys (all_in e b) = cc
  cut_before ys (some_in e b) = some_in e (some_before ys b)

  -- a good answer
  pub all_of : {xs : List Due} {u : Unit {0}} {v₁ : View} {m : ℕ} → Hands weight v n xs (Ok u) v₁ m → AllIn weight v n xs v₁ m
  all_of (all_in e b) = b
  all_of (some_in e b) = cc

  -- other names for the same events
  pub hands_as : {xs ys : List Due} {r : Result (Unit {0}) Refused} {v₁ : View} {m : ℕ} → xs ≡ ys → Hands weight v n xs r v₁ m → Hands weight v n ys r v₁ m
  hands_as {r = r} {v₁ = v₁} {m = m} e h = subst (λ ds. Hands weight v n ds r v₁ m) e h

  pub all_as : {xs ys : List Due} {v₁ : View} {m : ℕ} → xs ≡ ys → AllIn weight v n xs v₁ m → AllIn weight v n ys v₁ m
  all_as {v₁ = v₁} {m = m} e h = subst (λ ds. AllIn weight v n ds v₁ m) e h

  -- the refusal that leaves by `?`
  pub hands_left : {ds : List Due} {r : Result (Unit {0}) Refused} {c : Refused} {v₁ : View} {m : ℕ} → ((x : Refused) × (r ≡ Err x) × (x ≡ c)) → Hands weight v n ds (Err c) v₁ m → Hands weight v n ds r v₁ m
  hands_left {ds = ds} {v₁ = v₁} {m = m} p h = subst (λ q. Hands weight v n ds q v₁ m) (sym (p.1 ∙ ap Err p.2)) h

-- the answer of a sink to one event
pub one_hands : (weight : Ev → ℕ) (v : View) (n : ℕ) (d : Due) (v' : View) (r : Refusal) → allowed d.event ≡ true → Took weight v d.event (Err r) v'
    → Hands weight v n (d ∷ []) (Err (record { events = n; why = Sink d.node r })) v' n
one_hands weight v n d v' NotAllowed ok unfit = absurd (both_ways (allowed d.event) unfit.not_allowed ok)
one_hands weight v n d v' (NoSpace size space) ok full = some_in refl (one_out full)

-- a test that decides whether bytes are the same
pub decided : (xs ys : List ℕ) (r : Bool) → Decides r (xs ≡ ys) → r ≡ same_bytes xs ys
decided xs ys true d = sym (subst (λ zs. same_bytes xs zs ≡ true) (d.0 refl) (bytes_same xs))
decided xs ys false d = sym (bytes_differ xs ys (λ e. both_ways false refl (d.1 e)))
