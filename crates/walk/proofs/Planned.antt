-- From the contracts of numbering and walking to the answer of planning.
use Rattle.std.proofs.Common.{◌≡◌, ℕ, suc, ◌<◌, ◌≤◌, eqb, List, [], ◌∷◌, ◌++◌, map, length, take, drop, set, Some, None, Option, sym, refl, ap, ◌∙◌, subst, inl, inr, ⊎_elim, arith}
use mathlib.Core.List.Memᴰ
use lib.ListN.{length-map}
use Rattle.std.specs.List.{find}
use Rattle.std.specs.Option.{option_map}
use Rattle.std.proofs.lemmas.List.{set_at, append_assoc, length_push, take_at}
use Rattle.std.proofs.lemmas.Bool.{cases_Bool, eq-eqb, eqb-true, eqb-false, cond-true, cond-false}
use Rattle.model.specs.Graph.{Vertex, Book}
use Rattle.document.specs.Sound.{SoundBook}
use Rattle.serial.specs.Walk.{Token, first, again, leave, Walk}
use Rattle.serial.specs.Numbering.{seconds, number_of}
use Rattle.serial.proofs.Visiting.{visit_walk}
use Rattle.serial.proofs.Determined.{walk_same}
use Rattle.serial.proofs.Counts.{walk_length, walk_length_by_paths}
use Rattle.serial.proofs.Blocked.{too_deep_no_walk}
use Rattle.serial.proofs.Exists.{walk_exists}
use Rattle.serial.proofs.Anchors.{seconds_few, anchors_apart}
use Rattle.walk.specs.declared.entry.Counted.{Counted}
use Rattle.walk.specs.declared.entry.Step.{Step}
use Rattle.walk.specs.declared.limits.TheConstants.{MAX_STEPS}
use Rattle.walk.specs.Entries.{made, entry_at}
use Rattle.walk.specs.Going.{step_of, puts, state, Marks, WentFrom, Went, NoWay}
use Rattle.walk.specs.Plans.{lacks, first_lacking, AllNamed, FirstUnnamed, TheWalk, Deep, FewSteps, Unnamed, ReadyToWrite, Prepared}
use Rattle.walk.proofs.Sounds.{steps_few, sound, sound_graph}
use Rattle.walk.proofs.Within.{place_few, named_some, all_inside}
use Rattle.walk.proofs.Marking.{weighed_few, unmet_when}

-- steps that fit the table stand at its beginning
puts_at : (xs ys : List Step) (ts : List Token) (n : ℕ) → length xs ≡ n → length ts ≤ length ys → puts (xs ++ ys) n ts ≡ xs ++ (map step_of ts ++ drop (length ts) ys)
puts_at xs ys [] n at fits = refl
puts_at xs [] (t ∷ ts) n at fits = absurd (omega arith)
puts_at xs (y ∷ ys) (t ∷ ts) n at fits =
    let here : set (xs ++ y ∷ ys) n (step_of t) ≡ (xs ++ step_of t ∷ []) ++ ys = set_at xs y ys (step_of t) n at ∙ sym (append_assoc xs (step_of t ∷ []) ys) in
    ap (λ (z : List Step). puts z (suc n) ts) here
    ∙ puts_at (xs ++ step_of t ∷ []) ys ts (suc n) (omega (arith, length_push xs (step_of t))) (omega arith)
    ∙ append_assoc xs (step_of t ∷ []) (map step_of ts ++ drop (length ts) ys)

pub puts_all : (s : List Step) (ts : List Token) → length ts ≤ length s → puts s 0 ts ≡ map step_of ts ++ drop (length ts) s
puts_all s ts fits = puts_at [] s ts 0 refl fits

pub front_is : (s : List Step) (ts : List Token) → take (length ts) (map step_of ts ++ drop (length ts) s) ≡ map step_of ts
front_is s ts = take_at (map step_of ts) (drop (length ts) s) (length ts) (length-map ts step_of)

-- the walk from the root
pub no_mark : (t : List Counted) → ((v : ℕ) → (entry_at t v).serialized ≡ 0) → Marks t []
no_mark t unmet v = unmet_when t v (unmet v)

the_walk : (b : Book) (ts : List Token) (seen : List ℕ) → SoundBook b → 1 ≤ length b.nodes → Walk b.nodes 256 ts seen → TheWalk b.nodes ts seen
the_walk b ts seen s some w =
    record {
      walk = w;
      only = λ deep us met u. walk_same u w;
      count = walk_length (sound_graph b s some) w;
      by_paths = λ test tells. walk_length_by_paths (sound_graph b s some) w test tells;
    }

pub deep : (b : Book) (t : List Counted) (s : List Step) → SoundBook b → Prepared b.nodes t → NoWay b.nodes 0 1 (state t s 0) → Deep b.nodes (length t)
deep b t s sb p none =
    let any = walk_exists b.nodes (sound_graph b sb p.enough.some) in
    record {
      enough = p.enough;
      tokens = any.0;
      seen = any.1;
      walk = any.2;
      too_deep = λ ts met w. too_deep_no_walk (none [] (no_mark t p.unmet)) w;
    }

went : (g : List Vertex) (t t' : List Counted) (s s' : List Step) (n : ℕ) → Prepared g t → Went g 0 1 (state t s 0) (state t' s' n) → WentFrom g 0 1 (state t s 0) (state t' s' n) []
went g t t' s s' n p w = w.from [] (no_mark t p.unmet)

pub few_steps : (b : Book) (t t' : List Counted) (s s' : List Step) (n : ℕ) → SoundBook b → Prepared b.nodes t → Went b.nodes 0 1 (state t s 0) (state t' s' n)
    → length s < n → FewSteps b.nodes (length t) (length s)
few_steps b t t' s s' n sb p w lt =
    let f = went b.nodes t t' s s' n p w in
    record {
      enough = p.enough;
      tokens = f.tokens;
      seen = f.met;
      walk = the_walk b f.tokens f.met sb p.enough.some (visit_walk f.visit);
      few = omega (arith, f.at);
    }

-- no walk is longer than a table of MAX_STEPS
pub not_too_long : (b : Book) (t t' : List Counted) (s s' : List Step) (n : ℕ) → SoundBook b → Went b.nodes 0 1 (state t s 0) (state t' s' n) → n ≤ MAX_STEPS
not_too_long b t t' s s' n sb w = omega (arith, w.weighs, weighed_few b.nodes t', steps_few b sb)

-- the anchors as the walk leaves them
anchors_still : (g : List Vertex) (t t' : List Counted) (s s' : List Step) (n : ℕ) → Prepared g t → Went g 0 1 (state t s 0) (state t' s' n) → (v : ℕ) → (entry_at t' v).anchor ≡ number_of g v
anchors_still g t t' s s' n p w v = w.anchors v ∙ p.anchors v

steps_still : (g : List Vertex) (t t' : List Counted) (s s' : List Step) (n : ℕ) (p : Prepared g t) (w : Went g 0 1 (state t s 0) (state t' s' n)) → n ≤ length s
    → s' ≡ map step_of (went g t t' s s' n p w).tokens ++ drop (length (went g t t' s s' n p w).tokens) s
steps_still g t t' s s' n p w le =
    let f = went g t t' s s' n p w in
    f.steps ∙ puts_all s f.tokens (omega (arith, f.at))

abbrev node_of : Option Step → Option ℕ
node_of s = option_map (λ (x : Step). x.node) s

-- no step lacks an anchor
named_all : (g : List Vertex) (t : List Counted) (ts : List Token) → ((v : ℕ) → (entry_at t v).anchor ≡ number_of g v) → first_lacking t (map step_of ts) ≡ None → AllNamed g ts
named_all g t [] anchors e = λ v m. absurd (Memᴰ.not-nil m)
named_all g t (first w ∷ ts) anchors e = λ v m z. elim (Memᴰ.cases_cons m) [
  | inl same ↦ (let bad : ◌≡◌ {A = ℕ} 0 1 = cc in omega arith)
  | inr later ↦ named_all g t ts anchors e v later z
]
named_all g t (leave w ∷ ts) anchors e = λ v m z. elim (Memᴰ.cases_cons m) [
  | inl same ↦ (let bad : ◌≡◌ {A = ℕ} 0 1 = cc in omega arith)
  | inr later ↦ named_all g t ts anchors e v later z
]
named_all g t (again w ∷ ts) anchors e = λ v m z.
    let test = eqb (entry_at t w).anchor 0 in
    ⊎_elim
    (λ yes-so. let is = ap node_of (cond-true test (Some (made 2 w)) (find (lacks t) (map step_of ts)) yes-so) in let bad : ◌≡◌ {A = ℕ} 0 1 = cc in omega arith)
    (λ not_so.
    let on : first_lacking t (map step_of ts) ≡ None = sym (ap node_of (cond-false test (Some (made 2 w)) (find (lacks t) (map step_of ts)) not_so)) ∙ e in
    elim (Memᴰ.cases_cons m) [
      | inl same ↦ (let eq : v ≡ w = cc in let zero-at : (entry_at t w).anchor ≡ 0 = anchors w ∙ ap (λ k. number_of g k) (sym eq) ∙ z in
          let so = eq-eqb (entry_at t w).anchor 0 zero-at in let bad : ◌≡◌ {A = ℕ} 0 1 = cc in omega arith)
      | inr later ↦ named_all g t ts anchors on v later z
    ])
    (cases_Bool test)

-- the first step that lacks an anchor
one_more_lem : (g : List Vertex) (ts : List Token) (t : Token) (v : ℕ) → ((u : ℕ) → again u ≡ t → number_of g u ≡ 0 → ⊥) → FirstUnnamed g ts v → FirstUnnamed g (t ∷ ts) v
one_more_lem g ts t v named f =
    record {
      before = t ∷ f.before;
      rest = f.rest;
      split = ap (λ (xs : List Token). t ∷ xs) f.split;
      unnamed = f.unnamed;
      others = λ u m z. elim (Memᴰ.cases_cons m) [ inl same ↦ named u same z | inr later ↦ f.others u later z ];
    }

first_unnamed :
    (g : List Vertex) (t : List Counted) (ts : List Token) (v : ℕ) → ((v : ℕ) → (entry_at t v).anchor ≡ number_of g v) → first_lacking t (map step_of ts) ≡ Some v → FirstUnnamed g ts v
first_unnamed g t [] v anchors e = let bad : ◌≡◌ {A = ℕ} 0 1 = cc in absurd (omega arith)
first_unnamed g t (first w ∷ ts) v anchors e =
    one_more_lem g ts (first w) v (λ u same z. let bad : ◌≡◌ {A = ℕ} 0 1 = cc in omega arith) (first_unnamed g t ts v anchors e)
first_unnamed g t (leave w ∷ ts) v anchors e =
    one_more_lem g ts (leave w) v (λ u same z. let bad : ◌≡◌ {A = ℕ} 0 1 = cc in omega arith) (first_unnamed g t ts v anchors e)
first_unnamed g t (again w ∷ ts) v anchors e =
    let test = eqb (entry_at t w).anchor 0 in
    ⊎_elim
    (λ yes-so.
    let is = ap node_of (cond-true test (Some (made 2 w)) (find (lacks t) (map step_of ts)) yes-so) in
    let same : w ≡ v = cc in
    record {
      before = [];
      rest = ts;
      split = ap (λ k. again k ∷ ts) same;
      unnamed = sym (ap (λ k. number_of g k) same) ∙ sym (anchors w) ∙ eqb-true (entry_at t w).anchor 0 yes-so;
      others = λ u m. absurd (Memᴰ.not-nil m);
    })
    (λ not_so.
    one_more_lem g ts (again w) v
    (λ u same z. let eq : u ≡ w = cc in eqb-false (entry_at t w).anchor 0 not_so (anchors w ∙ ap (λ k. number_of g k) (sym eq) ∙ z))
    (first_unnamed g t ts v anchors (sym (ap node_of (cond-false test (Some (made 2 w)) (find (lacks t) (map step_of ts)) not_so)) ∙ e)))
    (cases_Bool test)

-- the front of the table, which was looked through
front : (s s' : List Step) (ts : List Token) (n : ℕ) → s' ≡ map step_of ts ++ drop (length ts) s → n ≡ length ts → take n s' ≡ map step_of ts
front s s' ts n e count = ap (λ k. take k s') count ∙ ap (λ (z : List Step). take (length ts) z) e ∙ front_is s ts

pub unnamed : (b : Book) (t t' : List Counted) (s s' : List Step) (n v : ℕ) → SoundBook b → Prepared b.nodes t → Went b.nodes 0 1 (state t s 0) (state t' s' n)
    → n ≤ length s → first_lacking t' (take n s') ≡ Some v → Unnamed b.nodes (length t) (length s) v
unnamed b t t' s s' n v sb p w le e =
    let g = b.nodes in
    let f = went g t t' s s' n p w in
    let long : n ≡ length f.tokens = f.at ∙ omega arith in
    let here = front s s' f.tokens n (steps_still g t t' s s' n p w le) long in
    record {
      enough = p.enough;
      tokens = f.tokens;
      seen = f.met;
      walk = the_walk b f.tokens f.met sb p.enough.some (visit_walk f.visit);
      fits = omega arith;
      first_one = first_unnamed g t' f.tokens v (anchors_still g t t' s s' n p w) (sym (ap (λ (z : List Step). first_lacking t' z) here) ∙ e);
    }

pub ready : (b : Book) (t t' : List Counted) (s s' : List Step) (n : ℕ) → SoundBook b → Prepared b.nodes t → Went b.nodes 0 1 (state t s 0) (state t' s' n)
    → n ≤ length s → first_lacking t' (take n s') ≡ None → ReadyToWrite b.nodes (length t) s n t' s'
ready b t t' s s' n sb p w le e =
    let g = b.nodes in
    let f = went g t t' s s' n p w in
    let long : n ≡ length f.tokens = f.at ∙ omega arith in
    let here = front s s' f.tokens n (steps_still g t t' s s' n p w le) long in
    let named = named_all g t' f.tokens (anchors_still g t t' s s' n p w) (sym (ap (λ (z : List Step). first_lacking t' z) here) ∙ e) in
    record {
      enough = p.enough;
      tokens = f.tokens;
      seen = f.met;
      walk = the_walk b f.tokens f.met sb p.enough.some (visit_walk f.visit);
      fits = omega arith;
      count = long;
      named = named;
      steps_hold = steps_still g t t' s s' n p w le;
      anchors_hold = anchors_still g t t' s s' n p w;
      anchors_few = λ v. omega (arith, place_few 0 v (seconds g), seconds_few g (sound b sb p.enough.some), sb.few);
      inside = all_inside b f.tokens f.met sb p.enough.some f.visit;
      tells = record { apart = anchors_apart g; given = λ v m. named_some g v (named v m) };
    }

-- the plan, whatever its tables are called
pub ready_as : {g : List Vertex} {counts n : ℕ} {s : List Step} {t t' : List Counted} {q q' : List Step} → t ≡ t' → q ≡ q' → ReadyToWrite g counts s n t' q' → ReadyToWrite g counts s n t q
ready_as {g} {counts} {n} {s} {t} {t'} {q} {q'} e f r =
    subst (λ u. ReadyToWrite g counts s n u q) (sym e) (subst (λ u. ReadyToWrite g counts s n t' u) (sym f) r)
