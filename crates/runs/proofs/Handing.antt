-- Handing on events one by one, from none to all or to the first that does not fit.
use Rattle.std.proofs.Common.{◌≡◌, ℕ, Bool, ◌||◌, List, [], ◌∷◌, ◌++◌, length, sym, refl, ap, ◌∙◌, arith}
use Rattle.std.proofs.lemmas.List.{append-nil, append_assoc}
use Rattle.yaml.specs.View.{View, Full}
use Rattle.yaml.specs.View.{Accepted as SinkAccepted}
use Rattle.model.specs.declared.EventKind.TheVariants.{StreamStart, StreamEnd, DocumentStart}
use Rattle.model.specs.Events.{Ev}
use Rattle.runs.specs.Writer.{Call, Due, events, has_kind, Passes, Wants, CutOff, Accepted}
use Rattle.runs.specs.Handing.{HandedOn, state_from}
use Rattle.runs.proofs.Wanted.{events_append, total_append}

pub handed_none : (weight : Ev → ℕ) (v : View) → HandedOn weight v [] v
handed_none weight v = record { taken = sym (append-nil v.taken); room = omega arith }

-- one event more was taken
pub handed_more : {weight : Ev → ℕ} {u v w : View} {done : List Due} (d : Due) → HandedOn weight u done v → SinkAccepted weight v d.event w → HandedOn weight u (done ++ d ∷ []) w
handed_more {weight} {u} {done = done} d h k = record {
  taken = k.appended ∙ ap (λ es. es ++ d.event ∷ []) h.taken ∙ append_assoc u.taken (events done) (d.event ∷ []) ∙ ap (λ es. u.taken ++ es) (sym (events_append done (d ∷ [])));
  room = omega (arith, h.room, k.fallen, total_append weight done (d ∷ []));
}

-- the same from parts
pub handed_append : {weight : Ev → ℕ} {u v w : View} {xs ys : List Due} → HandedOn weight u xs v → HandedOn weight v ys w → HandedOn weight u (xs ++ ys) w
handed_append {weight} {u} {xs = xs} {ys = ys} h k = record {
  taken = k.taken ∙ ap (λ es. es ++ events ys) h.taken ∙ append_assoc u.taken (events xs) (events ys) ∙ ap (λ es. u.taken ++ es) (sym (events_append xs ys));
  room = omega (arith, h.room, k.room, total_append weight xs ys);
}

-- all events of a call were taken
pub all_handed : (weight : Ev → ℕ) (c : Call) (o cl sp o' cl' : Bool) (u v : View) (ds : List Due)
    → Passes c (state_from o cl sp u) → Wants c (state_from o cl sp u) ds → HandedOn weight u ds v
    → o' ≡ (o || has_kind StreamStart ds) → cl' ≡ (cl || has_kind StreamEnd ds) → (n : ℕ) → n ≡ length ds
    → Accepted weight c (state_from o cl sp u) n (state_from o' cl' sp v)
all_handed weight c o cl sp o' cl' u v ds passed wanted h opened closed n counted =
    record { dues = ds; passed = passed; wanted = wanted; counted = counted; took = record { taken = h.taken; room = h.room; opened = opened; closed = closed }; spoilt = refl }

-- the sink had no space for the next one
pub cut_handed : (weight : Ev → ℕ) (c : Call) (o cl sp o' cl' sp' : Bool) (u v w : View) (done : List Due) (next_one : Due) (left : List Due)
    → Passes c (state_from o cl sp u) → Wants c (state_from o cl sp u) (done ++ next_one ∷ left) → HandedOn weight u done v
    → (size space : ℕ) → Full weight v next_one.event size space w
    → o' ≡ (o || has_kind StreamStart done) → cl' ≡ (cl || has_kind StreamEnd done) → sp' ≡ (sp || has_kind DocumentStart done)
    → (n node : ℕ) → n ≡ length done → node ≡ next_one.node
    → CutOff weight c (state_from o cl sp u) n node size space (state_from o' cl' sp' w)
cut_handed weight c o cl sp o' cl' sp' u v w done next_one left passed wanted h size space full opened closed spoilt n node counted told = record {
  done = done;
  next_one = next_one;
  left = left;
  passed = passed;
  wanted = wanted;
  counted = counted;
  took = record { taken = ap (λ x. x.taken) full.same ∙ h.taken; room = omega (arith, ap (λ x. x.room) full.same, h.room); opened = opened; closed = closed };
  spoilt = spoilt;
  node_told = told;
  size_told = full.size_told;
  space_told = full.space_told ∙ sym (ap (λ x. x.room) full.same);
  too_large = omega (arith, full.too_large, ap (λ x. x.room) full.same);
}
