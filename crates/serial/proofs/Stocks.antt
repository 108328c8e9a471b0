-- How much is composed of a walk's events, at the end and on the way.
use Rattle.std.proofs.Common.{◌≡◌, ℕ, zero, suc, ◌+◌, ◌<◌, ◌≤◌, true, false, eqb, ◌≢◌, List, [], ◌∷◌, ◌++◌, length, set, Some, None, Option, sym, refl, ap, ◌∙◌, subst, arith}
use mathlib.Core.List.{Memᴰ}
use Rattle.std.proofs.lemmas.Bool.{eqb-false, or_parts}
use Rattle.std.proofs.lemmas.List.{append_assoc, length-append, length-set, nil_from_length}
use Rattle.model.specs.declared.EventKind.{EventKind}
use Rattle.model.specs.declared.EventKind.TheVariants.{StreamStart, StreamEnd, DocumentStart, DocumentEnd, Alias, Scalar as ScalarEvent, SequenceStart, SequenceEnd, MappingStart, MappingEnd}
use Rattle.model.specs.declared.NodeKind.{NodeKind}
use Rattle.model.specs.declared.NodeKind.TheVariants.{Scalar, Sequence, Mapping}
use Rattle.model.specs.Events.{Ev}
use Rattle.model.specs.Graph.{Look, Vertex, nth, numbered}
use Rattle.serial.specs.Walk.{Token, again, Spot, spot, among, is_collection, Step, met, leaf, into, out, Steps}
use Rattle.serial.specs.Serialize.{start_kind, end_kind, token_events, walk_events}
use Rattle.serial.specs.Compose.{Frame, frame, Composed, TakesIn, alias, scalar, start, end, TakesAll, beginning, bare_vertex, look_of, noted}
use Rattle.serial.specs.RoundTrip.{Sound}
use Rattle.serial.specs.Stocks.{all_links, links_of, text_of, all_text, texts_of, name_bytes, anchor_bytes, is_first, is_child, firsts, children, waiting, stock, to_come, Counting, Bounds}
use Rattle.serial.proofs.Standing.{Stands, here, there, Distinct, bounds, stands_some, names_of, nth_push}
use Rattle.serial.proofs.Anchors.{fewer}
use Rattle.serial.proofs.Composing.{Tied, Next, next, tied_first, closed_is, numbered_set_other, one_vertex, Fits, before, after, above}
use Rattle.serial.proofs.Unique.{one_way, one_end}

-- sums of links
links_push : (g : List Vertex) (l : Look) → all_links (g ++ bare_vertex l ∷ []) ≡ all_links g
links_push [] l = refl
links_push (x ∷ g) l = ap (λ n. length x.links + n) (links_push g l)

links_set : (g : List Vertex) (i : ℕ) (x y : Vertex) → nth g i ≡ Some x → all_links (set g i y) + length x.links ≡ all_links g + length y.links
links_set [] i x y h = let z : ◌≡◌ {A = ℕ} 0 1 = cc in absurd (omega (arith, z))
links_set (z ∷ g) zero x y h = let e : z ≡ x = cc in omega (arith, ap (λ v. length v.links) e)
links_set (z ∷ g) (suc i) x y h = omega (arith, links_set g i x y h)

-- open collections have different numbers, newest first, and no links yet
abbrev Bare : List Vertex → ℕ → Type 0
Bare nodes k = (x : Vertex) → numbered nodes k ≡ Some x → x.links ≡ []

abbrev Orderly : List Vertex → ℕ → List Frame → Type 0
Orderly nodes n [] = Unit {0}
Orderly nodes n (frame k ks ∷ frames) = (k < n) × Bare nodes k × Orderly nodes k frames

abbrev InOrder : Composed → Type 0
InOrder s = Orderly s.nodes (suc (length s.nodes)) s.open_ones

orderly_map : (nodes nodes' : List Vertex) (n n' : ℕ) (frames : List Frame) → n ≤ n' → ((k : ℕ) → k < n → Bare nodes k → Bare nodes' k) → Orderly nodes n frames → Orderly nodes' n' frames
orderly_map nodes nodes' n n' [] l keep o = tt
orderly_map nodes nodes' n n' (frame k ks ∷ frames) l keep o =
    (omega (arith, o.0), keep k o.0 o.1, orderly_map nodes nodes' k k frames (omega arith) (λ j h. keep j (omega (arith, o.0))) o.2)

bare_push : (nodes : List Vertex) (l : Look) (k : ℕ) → Bare nodes k → Bare (nodes ++ bare_vertex l ∷ []) k
bare_push nodes l zero b x h = let z : ◌≡◌ {A = ℕ} 0 1 = cc in absurd (omega (arith, z))
bare_push nodes l (suc i) b x h = go nodes i b h
  where
    go : (nodes : List Vertex) (i : ℕ) → Bare nodes (suc i) → nth (nodes ++ bare_vertex l ∷ []) i ≡ Some x → x.links ≡ []
    go [] zero b h = let e : bare_vertex l ≡ x = cc in ap (λ v. v.links) (sym e)
    go [] (suc i) b h = let z : ◌≡◌ {A = ℕ} 0 1 = cc in absurd (omega (arith, z))
    go (y ∷ nodes) zero b h = b x h
    go (y ∷ nodes) (suc i) b h = go nodes i b h

bare_new : (nodes : List Vertex) (l : Look) → Bare (nodes ++ bare_vertex l ∷ []) (suc (length nodes))
bare_new [] l x h = let e : bare_vertex l ≡ x = cc in ap (λ v. v.links) (sym e)
bare_new (y ∷ nodes) l x h = bare_new nodes l x h

-- what an event adds: a child, a node
abbrev adds : EventKind → ℕ
adds StreamStart = 0
adds StreamEnd = 0
adds DocumentStart = 0
adds DocumentEnd = 0
adds Alias = 1
adds ScalarEvent = 1
adds SequenceStart = 1
adds MappingStart = 1
adds SequenceEnd = 0
adds MappingEnd = 0

pub adds_start : (k : NodeKind) → adds (start_kind k) ≡ 1
adds_start Scalar = refl
adds_start Sequence = refl
adds_start Mapping = refl

pub adds_end : (k : NodeKind) → is_collection k ≡ true → adds (end_kind k) ≡ 0
adds_end Scalar c = let z : ◌≡◌ {A = ℕ} 0 1 = cc in absurd (omega (arith, z))
adds_end Sequence c = refl
adds_end Mapping c = refl

waiting_as : {fs others : List Frame} {u : ℕ} {ks : List ℕ} → fs ≡ frame u ks ∷ others → waiting fs ≡ length ks + waiting others
waiting_as e = ap waiting e

orderly_as : (nodes : List Vertex) (n : ℕ) {u : ℕ} {ks : List ℕ} {fs others : List Frame} → fs ≡ frame u ks ∷ others → Orderly nodes n fs → (u < n) × Bare nodes u × Orderly nodes u others
orderly_as nodes n e o = subst (λ f. Orderly nodes n f) e o

-- one event adds what it adds
pub grows : {s t : Composed} {e : Ev} → TakesIn s e t → InOrder s → (stock t ≡ adds e.kind + stock s) × InOrder t
grows {s = s} (alias {v = v} {children = ks} a b c d f) o = rw f (omega (arith, ap adds a, waiting_as b, length-append ks (v ∷ [])), orderly_as s.nodes _ b o)
grows {s = s} {e = e} (scalar {u = u} {children = ks} {frames = frames} a b c d f) o =
    let n : ℕ = suc (length s.nodes) in
    let l : Look = look_of Scalar e in
    rw f (
      omega (arith, ap adds a, waiting_as b, links_push s.nodes l, length-append ks (n ∷ [])),
      orderly_map s.nodes (s.nodes ++ bare_vertex l ∷ []) n _ (frame u (ks ++ n ∷ []) ∷ frames) (omega (arith, length-append s.nodes (bare_vertex l ∷ []))) (λ k _. bare_push s.nodes l k) (orderly_as s.nodes n b o),
    )
grows {s = s} {e = e} (start {u = u} {children = ks} {frames = frames} k h a b c d f) o =
    let n : ℕ = suc (length s.nodes) in
    let l : Look = look_of k e in
    rw f (
      omega (arith, ap adds a ∙ adds_start k, waiting_as b, links_push s.nodes l, length-append ks (n ∷ [])),
      (
        omega (arith, length-append s.nodes (bare_vertex l ∷ [])),
        bare_new s.nodes l,
        orderly_map s.nodes (s.nodes ++ bare_vertex l ∷ []) n n (frame u (ks ++ n ∷ []) ∷ frames) (omega arith) (λ k _. bare_push s.nodes l k) (orderly_as s.nodes n b o),
      ),
    )
grows {s = s} {t = t} (end {v = v} {children = ks} {frames = frames} {x = x} b n c a d f) o =
    let p = orderly_as s.nodes _ b o in
    let y : Vertex = record { look = x.look; links = ks } in
    let after : Composed = record { nodes = set s.nodes v y; names = s.names; open_ones = frames } in
    let is : t ≡ after = f ∙ (λ i. record { nodes = closed_is s.nodes v x ks n i; names = s.names; open_ones = frames }) in
    rw is (
      omega (arith, ap adds a ∙ adds_end x.look.kind c, waiting_as b, links_set s.nodes v x y n, ap length (p.1 x n)),
      orderly_map s.nodes (set s.nodes v y) (suc v) _ frames (omega (arith, p.0, length-set s.nodes v y))
          (λ k l bare z e. bare z (sym (numbered_set_other s.nodes v k y (λ q. omega arith)) ∙ e)) p.2,
    )

-- what a step of the walk adds
links_more : (g : List Vertex) (v : ℕ) (x : Vertex) (seen : List ℕ) → numbered g v ≡ Some x → links_of g (v ∷ seen) ≡ length x.links + links_of g seen
links_more g v x seen h = rw h refl

same_head : (e f : Ev) → e ∷ [] ≡ f ∷ [] → e ≡ f
same_head e f h = cc

step_adds : (anchors : ℕ → List ℕ) {g : List Vertex} {stack stack' : List Spot} {seen seen' : List ℕ} {token : Token} {frames : List Frame} (e : Ev)
    → Step g stack seen token stack' seen' → Fits g seen stack frames → token_events anchors g token ≡ e ∷ [] → adds e.kind ≡ is_child token
step_adds anchors e (met h) fits gives = ap (λ q. adds q.kind) (sym (same_head _ e gives))
step_adds anchors e (leaf {x = x} h is_x c) fits gives = ap (λ q. adds q.kind) (sym (same_head _ e (rw is_x at gives))) ∙ adds_start x.look.kind
step_adds anchors e (into {x = x} h is_x c) fits gives = ap (λ q. adds q.kind) (sym (same_head _ e (rw is_x at gives))) ∙ adds_start x.look.kind
step_adds anchors e out (above {x = x} s is_x c m l f) gives = ap (λ q. adds q.kind) (sym (same_head _ e (rw is_x at gives))) ∙ adds_end x.look.kind c

-- what is met only grows
before_it : {g : List Vertex} {stack stack' : List Spot} {seen seen' : List ℕ} {token : Token} → Step g stack seen token stack' seen' → (more : List ℕ) × (seen' ≡ more ++ seen)
before_it (met h) = ([], refl)
before_it (leaf {v = v} h is_x c) = (v ∷ [], refl)
before_it (into {v = v} h is_x c) = (v ∷ [], refl)
before_it out = ([], refl)

met_before : {g : List Vertex} {deep : ℕ} {stack stack' : List Spot} {seen seen' : List ℕ} {ts : List Token} → Steps g deep stack seen stack' seen' ts → (more : List ℕ) × (seen' ≡ more ++ seen)
met_before Steps.none = ([], refl)
met_before {seen = seen} (Steps.more a d rest) =
    let p = before_it a in let q = met_before rest in (q.0 ++ p.0, q.1 ∙ ap (λ l. q.0 ++ l) p.1 ∙ sym (append_assoc q.0 p.0 seen))

sums_append : (g : List Vertex) (anchors : ℕ → List ℕ) (more seen : List ℕ)
    → (length seen ≤ length (more ++ seen)) × (links_of g seen ≤ links_of g (more ++ seen)) × (texts_of g seen ≤ texts_of g (more ++ seen)) × (anchor_bytes anchors seen ≤ anchor_bytes anchors (more ++ seen))
sums_append g anchors [] seen = (omega arith, omega arith, omega arith, omega arith)
sums_append g anchors (v ∷ more) seen = let p = sums_append g anchors more seen in (omega (arith, p), omega (arith, p), omega (arith, p), omega (arith, p))

module _ {g : List Vertex} (sound : Sound g) where
  step_counts : {stack stack' : List Spot} {seen seen' : List ℕ} {token : Token} → Step g stack seen token stack' seen'
      → (length seen' ≡ is_first token + length seen) × (to_come stack + links_of g seen' ≡ to_come stack' + is_child token + links_of g seen)
  step_counts (met h) = (omega arith, omega arith)
  step_counts (leaf {v = v} {seen = seen} {x = x} h is_x c) = (omega arith, omega (arith, links_more g v x seen is_x, ap length ((sound.each v x is_x).scalar_ends c)))
  step_counts (into {v = v} {seen = seen} {x = x} h is_x c) = (omega arith, omega (arith, links_more g v x seen is_x))
  step_counts out = (omega arith, omega arith)

  steps_count : {deep : ℕ} {stack stack' : List Spot} {seen seen' : List ℕ} {ts : List Token} → Steps g deep stack seen stack' seen' ts
      → (length seen' ≡ firsts ts + length seen) × (to_come stack + links_of g seen' ≡ to_come stack' + children ts + links_of g seen)
  steps_count Steps.none = (omega arith, omega arith)
  steps_count (Steps.more a d rest) = let p = step_counts a in let q = steps_count rest in (omega arith, omega arith)

-- a state on the way: tied to a walk that is as deep, and in balance with it
pub record Mid (g : List Vertex) (anchors : ℕ → List ℕ) (deep : ℕ) (stack : List Spot) (seen : List ℕ) (s : Composed) : Type 0 where
  pub tied : Tied g anchors stack seen s
  pub depth : length stack ≤ suc deep
  pub order : InOrder s
  pub balance : stock s + to_come stack ≡ suc (links_of g seen)

pub mid_first : (g : List Vertex) (anchors : ℕ → List ℕ) (deep : ℕ) → Mid g anchors deep (spot 0 (1 ∷ []) ∷ []) [] beginning
mid_first g anchors deep = record {
  tied = tied_first g anchors;
  depth = omega arith;
  balance = refl;
  order = (omega arith, (λ x h. let z : ◌≡◌ {A = ℕ} 0 1 = cc in absurd (omega (arith, z))), tt);
}

-- a state on the way, with how much is met at the end
pub record Midway (g : List Vertex) (anchors : ℕ → List ℕ) (deep : ℕ) (seen : List ℕ) (s : Composed) : Type 0 where
  pub stack : List Spot
  pub so_far : List ℕ
  pub mid : Mid g anchors deep stack so_far s
  pub more : List ℕ
  pub all : seen ≡ more ++ so_far

split : (e f : Ev) (es fs : List Ev) → e ∷ es ≡ f ∷ fs → (e ≡ f) × (es ≡ fs)
split e f es fs h = ((cc), (cc))

module _ {g : List Vertex} {anchors : ℕ → List ℕ} (sound : Sound g) (apart : (v w : ℕ) → anchors v ≡ anchors w → anchors v ≢ [] → v ≡ w) where
  mid_step : {deep : ℕ} {stack stack' : List Spot} {seen seen' : List ℕ} {token : Token} {s : Composed} → Step g stack seen token stack' seen' → length stack' ≤ suc deep
      → (n : Next g anchors stack' seen' s token) → Mid g anchors deep stack seen s → Mid g anchors deep stack' seen' n.to
  mid_step step d n m =
      let p = grows n.taken m.order in
      record {
        tied = n.tied;
        depth = d;
        order = p.1;
        balance = omega (arith, p.0, step_adds anchors n.event step m.tied.fits n.gives, (step_counts sound step).1, m.balance);
      }

  pub midway : {deep : ℕ} {stack stack' : List Spot} {seen seen' : List ℕ} {ts : List Token} {s t : Composed} {es : List Ev} (later : List Ev)
      → Steps g deep stack seen stack' seen' ts → ((v : ℕ) → Memᴰ (again v) ts → anchors v ≢ []) → Mid g anchors deep stack seen s
      → TakesAll s es t → es ++ later ≡ walk_events anchors g ts → Midway g anchors deep seen' t
  midway later steps given m TakesAll.none e = record { stack = _; so_far = _; mid = m; more = (met_before steps).0; all = (met_before steps).1 }
  midway later Steps.none given m (TakesAll.more a rest) e = let z : ◌≡◌ {A = ℕ} 0 1 = cc in absurd (omega (arith, z))
  midway {s = s} {t = t} later (Steps.more {ts = ts} step d steps) given m (TakesAll.more {t = u} {e = x} {es = es} a rest) e =
      let n = next sound apart step (λ v q. given v (Memᴰ.head (sym q))) m.tied in
      let p = split x n.event (es ++ later) (walk_events anchors g ts) (e ∙ ap (λ q. q ++ walk_events anchors g ts) n.gives) in
      let same : u ≡ n.to = one_way (subst (λ q. TakesIn s q u) p.0 a) n.taken in
      midway later steps (λ v i. given v (Memᴰ.tail i)) (mid_step step d n m) (subst (λ q. TakesAll q es t) same rest) p.1

  mid_end : {deep : ℕ} {stack stack' : List Spot} {seen seen' : List ℕ} {ts : List Token} {s : Composed}
      → Steps g deep stack seen stack' seen' ts → ((v : ℕ) → Memᴰ (again v) ts → anchors v ≢ []) → Mid g anchors deep stack seen s
      → (t : Composed) × TakesAll s (walk_events anchors g ts) t × Mid g anchors deep stack' seen' t
  mid_end Steps.none given m = (_, TakesAll.none, m)
  mid_end {s = s} (Steps.more {ts = ts} step d steps) given m =
      let n = next sound apart step (λ v q. given v (Memᴰ.head (sym q))) m.tied in
      let r = mid_end steps (λ v i. given v (Memᴰ.tail i)) (mid_step step d n m) in
      (r.0, subst (λ es. TakesAll s (es ++ walk_events anchors g ts) r.0) (sym n.gives) (TakesAll.more n.taken r.1), r.2)

-- the text of what is composed is that of the nodes met
text_push : (g : List Vertex) (x : Vertex) → all_text (g ++ x ∷ []) ≡ all_text g + text_of x.look
text_push [] x = omega arith
text_push (y ∷ g) x = omega (arith, text_push g x)

last_one : (nodes : List Vertex) (n : ℕ) → length nodes ≡ suc n → (front : List Vertex) × (x : Vertex) × (nodes ≡ front ++ x ∷ []) × (length front ≡ n)
last_one [] n h = absurd (omega arith)
last_one (x ∷ []) n h = ([], x, refl, omega arith)
last_one (x ∷ (y ∷ nodes)) zero h = absurd (omega arith)
last_one (x ∷ (y ∷ nodes)) (suc n) h =
    let r = last_one (y ∷ nodes) n (omega arith) in (x ∷ r.0, r.1, ap (λ l. x ∷ l) r.2, ap suc r.3)

nth_front : (xs ys : List Vertex) (i : ℕ) → i < length xs → nth (xs ++ ys) i ≡ nth xs i
nth_front [] ys i h = absurd (omega arith)
nth_front (x ∷ xs) ys zero h = refl
nth_front (x ∷ xs) ys (suc i) h = nth_front xs ys i (omega arith)

numbered_front : (xs ys : List Vertex) (k : ℕ) → k ≤ length xs → numbered (xs ++ ys) k ≡ numbered xs k
numbered_front xs ys zero h = refl
numbered_front xs ys (suc i) h = nth_front xs ys i h

text_more : (g : List Vertex) (v : ℕ) (x : Vertex) (seen : List ℕ) → numbered g v ≡ Some x → texts_of g (v ∷ seen) ≡ text_of x.look + texts_of g seen
text_more g v x seen h = rw h refl

text_same : (g : List Vertex) (seen : List ℕ) (nodes : List Vertex) → length nodes ≡ length seen
    → ((k v : ℕ) → Stands seen k v → (x y : Vertex) × (numbered g v ≡ Some x) × (numbered nodes k ≡ Some y) × (y.look ≡ x.look)) → all_text nodes ≡ texts_of g seen
text_same g [] nodes h all = ap all_text (nil_from_length nodes h)
text_same g (v ∷ seen) nodes h all =
    let r = last_one nodes (length seen) h in
    let front : List Vertex = r.0 in
    let x : Vertex = r.1 in
    let p = all (suc (length seen)) v (here refl refl) in
    let last : numbered nodes (suc (length seen)) ≡ Some x = ap (λ n. numbered n (suc (length seen))) r.2 ∙ ap (λ n. nth (front ++ x ∷ []) n) (sym r.3) ∙ nth_push front x in
    let same : x.look ≡ p.0.look = ap (λ y. y.look) (one_vertex (numbered nodes (suc (length seen))) x p.1 last p.3) ∙ p.4 in
    let more : all_text front ≡ texts_of g seen = text_same g seen front r.3 (λ k w s.
    let q = all k w (there s) in
    (q.0, q.1, q.2, sym (numbered_front front (x ∷ []) k (omega (arith, bounds s, r.3))) ∙ ap (λ n. numbered n k) (sym r.2) ∙ q.3, q.4)) in
    ap all_text r.2 ∙ omega (arith, text_push front x, text_more g v p.0 seen p.2, ap text_of same)

tied_text : {g : List Vertex} {anchors : ℕ → List ℕ} {stack : List Spot} {seen : List ℕ} {s : Composed} → Tied g anchors stack seen s → all_text s.nodes ≡ texts_of g seen
tied_text {g = g} {seen = seen} {s = s} t = text_same g seen s.nodes t.size (λ k v i. let p = t.placed k v i in (p.old, p.new, p.is_old, p.is_new, p.look))

-- and so are its anchors
noted_few : (a : List ℕ) (k : ℕ) (ns : List (List ℕ × ℕ)) → (length (noted a k ns) ≤ suc (length ns)) × (name_bytes (noted a k ns) ≡ length a + name_bytes ns)
noted_few [] k ns = (omega arith, omega arith)
noted_few (b ∷ bs) k ns = (omega arith, refl)

names_few : (anchors : ℕ → List ℕ) (seen : List ℕ) → (length (names_of anchors seen) ≤ length seen) × (name_bytes (names_of anchors seen) ≡ anchor_bytes anchors seen)
names_few anchors [] = (omega arith, refl)
names_few anchors (v ∷ seen) =
    let p = noted_few (anchors v) (suc (length seen)) (names_of anchors seen) in
    let q = names_few anchors seen in
    (omega (arith, p, q), omega (arith, p, q))

-- open collections are as many in both
fits_length : {g : List Vertex} {seen : List ℕ} {stack : List Spot} {frames : List Frame} → Fits g seen stack frames → length frames ≡ length stack
fits_length (before e) = refl
fits_length (after s) = refl
fits_length (above s e c m l f) = ap suc (fits_length f)

pub bounds_kept : Bounds
bounds_kept g deep ts seen anchors es later s sound walk tells taken e =
    let m = midway sound tells.apart later walk.steps tells.given (mid_first g anchors deep) taken e in
    let tied = m.mid.tied in
    let few = names_few anchors m.so_far in
    let grow = sums_append g anchors m.more m.so_far in
    rw m.all (record {
      open_few = omega (arith, fits_length tied.fits, m.mid.depth);
      nodes_few = omega (arith, tied.size, grow.0);
      links_few = omega (arith, m.mid.balance, grow.1);
      text_few = omega (arith, tied_text tied, grow.2);
      names_few = omega (arith, ap length tied.names, few.0, grow.0);
      name_bytes_few = omega (arith, ap name_bytes tied.names, few.1, grow.3);
    })

-- the nodes met are nodes of the document, each once
numbered_within : (g : List Vertex) (v : ℕ) (x : Vertex) → numbered g v ≡ Some x → (1 ≤ v) × (v ≤ length g)
numbered_within g zero x h = let z : ◌≡◌ {A = ℕ} 0 1 = cc in absurd (omega (arith, z))
numbered_within [] (suc i) x h = let z : ◌≡◌ {A = ℕ} 0 1 = cc in absurd (omega (arith, z))
numbered_within (y ∷ g) (suc zero) x h = (omega arith, omega arith)
numbered_within (y ∷ g) (suc (suc i)) x h = let r = numbered_within g (suc i) x h in (omega arith, omega (arith, r))

links_without : (g : List Vertex) (i : ℕ) (y : Vertex) (vs : List ℕ) → among (suc i) vs ≡ false → links_of (set g i y) vs ≡ links_of g vs
links_without g i y [] h = refl
links_without g i y (v ∷ vs) h =
    let p = or_parts (eqb (suc i) v) (among (suc i) vs) h in
    rw (numbered_set_other g i v y (λ e. eqb-false (suc i) v p.0 (sym e)), links_without g i y vs p.1) refl

links_rest : (g : List Vertex) (v : ℕ) (vs : List ℕ) (o : Option Vertex) → numbered g v ≡ o → among v vs ≡ false → ((h : List Vertex) → links_of h vs ≤ all_links h) → links_of g (v ∷ vs) ≤ all_links g
links_rest g v vs None e a more = rw e (omega (arith, more g))
links_rest g zero vs (Some x) e a more = let z : ◌≡◌ {A = ℕ} 0 1 = cc in absurd (omega (arith, z))
links_rest g (suc i) vs (Some x) e a more =
    let y : Vertex = bare_vertex x.look in
    omega (arith, links_more g (suc i) x vs e, links_set g i x y e, links_without g i y vs a, more (set g i y))

pub links_within : (vs : List ℕ) → Distinct vs → (g : List Vertex) → links_of g vs ≤ all_links g
links_within [] d g = omega arith
links_within (v ∷ vs) d g = links_rest g v vs (numbered g v) refl d.0 (links_within vs d.1)

text_set : (g : List Vertex) (i : ℕ) (x y : Vertex) → nth g i ≡ Some x → all_text (set g i y) + text_of x.look ≡ all_text g + text_of y.look
text_set [] i x y h = let z : ◌≡◌ {A = ℕ} 0 1 = cc in absurd (omega (arith, z))
text_set (z ∷ g) zero x y h = let e : z ≡ x = cc in omega (arith, ap (λ v. text_of v.look) e)
text_set (z ∷ g) (suc i) x y h = omega (arith, text_set g i x y h)

text_without : (g : List Vertex) (i : ℕ) (y : Vertex) (vs : List ℕ) → among (suc i) vs ≡ false → texts_of (set g i y) vs ≡ texts_of g vs
text_without g i y [] h = refl
text_without g i y (v ∷ vs) h =
    let p = or_parts (eqb (suc i) v) (among (suc i) vs) h in
    rw (numbered_set_other g i v y (λ e. eqb-false (suc i) v p.0 (sym e)), text_without g i y vs p.1) refl

text_rest : (g : List Vertex) (v : ℕ) (vs : List ℕ) (o : Option Vertex) → numbered g v ≡ o → among v vs ≡ false → ((h : List Vertex) → texts_of h vs ≤ all_text h) → texts_of g (v ∷ vs) ≤ all_text g
text_rest g v vs None e a more = rw e (omega (arith, more g))
text_rest g zero vs (Some x) e a more = let z : ◌≡◌ {A = ℕ} 0 1 = cc in absurd (omega (arith, z))
text_rest g (suc i) vs (Some x) e a more =
    let y : Vertex = bare_vertex (record { kind = x.look.kind; style = 0; tag = []; value = [] }) in
    omega (arith, text_more g (suc i) x vs e, text_set g i x y e, text_without g i y vs a, more (set g i y))

pub text_within : (vs : List ℕ) → Distinct vs → (g : List Vertex) → texts_of g vs ≤ all_text g
text_within [] d g = omega arith
text_within (v ∷ vs) d g = text_rest g v vs (numbered g v) refl d.0 (text_within vs d.1)

pub counting : Counting
counting g deep ts seen anchors h sound walk tells c =
    let r = mid_end sound tells.apart walk.steps tells.given (mid_first g anchors deep) in
    let m = r.2 in
    let same : r.0 ≡ c.end_state = one_end r.1 c.taken_in in
    let is : r.0.nodes ≡ h = ap (λ s. s.nodes) same ∙ c.result in
    let open_ones : waiting r.0.open_ones ≡ 1 = ap (λ s. waiting s.open_ones) same ∙ ap waiting c.complete in
    let size : length h ≡ length seen = ap length (sym is) ∙ m.tied.size in
    let links : all_links h ≡ links_of g seen = ap all_links (sym is) ∙ omega (arith, m.balance) in
    let text : all_text h ≡ texts_of g seen = ap all_text (sym is) ∙ tied_text m.tied in
    let counts = steps_count sound walk.steps in
    record {
      nodes = size;
      met = omega (arith, counts.0);
      links = omega (arith, counts.1);
      links_are_met = links;
      text = text;
      no_more_nodes = omega (
        arith,
        fewer (length g) seen m.tied.distinct
            (λ v a. let s = stands_some v seen a in let p = m.tied.placed s.0 v s.1 in numbered_within g v p.old p.is_old),
      );
      no_more_links = omega (arith, links_within seen m.tied.distinct g);
      no_more_text = omega (arith, text_within seen m.tied.distinct g);
    }
