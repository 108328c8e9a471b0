-- Reading entries by their numbers, and where the parts of right nodes lie.
use Rattle.std.proofs.Common.{◌≡◌, ℕ, zero, suc, ◌+◌, ◌-◌, ◌%◌, ◌<◌, ◌≤◌, true, not, ◌&&◌, ◌||◌, eqb, leb, ◌⊎◌, List, [], ◌∷◌, map, length, get_or, drop, Some, None, Ok, Err, Option, Result, sym, refl, ap, ◌∙◌, subst, inl, inr, ⊎_elim, arith, Bor}
use Rattle.std.specs.Slice.{IsItemAt}
use Rattle.std.proofs.lemmas.List.{length-take-le, length-drop}
use Rattle.std.proofs.lemmas.Bool.{and_parts, or_cases, leb-true, eqb-true, cases_Bool, cond-true, cond-false}
use Rattle.std.specs.Result.{result_ok}
use Rattle.model.specs.declared.NodeKind.{NodeKind}
use Rattle.model.specs.declared.NoSuchKind.{NoSuchKind}
use Rattle.model.specs.Graph.{nth, numbered, node_kind_at, NodeKindOf}
use Rattle.model.specs.Events.{zero_free}
use Rattle.document.specs.declared.node.Node.{Node}
use Rattle.document.specs.declared.standing.Document.{Document}
use Rattle.std.specs.List.{list_all}
use Rattle.document.specs.Questions.{part, lies, names, bang, kind_right, tag_of, tag_right, value_right, links_right, link_count, links_of}
use Rattle.document.specs.Books.{kind_of}
use Rattle.document.specs.Reads.{given, record_at, vertex_at, of_document, NodeRead, kind_in, kind_at, count_in, count_at}
use Rattle.document.proofs.Every.{nth_at, nth_past, every_at}

nth_map : {X Y : Type 0} (f : X → Y) (xs : List X) (i : ℕ) → nth (map f xs) i ≡ given f (nth xs i)
nth_map f [] i = refl
nth_map f (x ∷ xs) zero = refl
nth_map f (x ∷ xs) (suc i) = nth_map f xs i

pub numbered_map : {X Y : Type 0} (f : X → Y) (xs : List X) (k : ℕ) → numbered (map f xs) k ≡ given f (numbered xs k)
numbered_map f xs zero = refl
numbered_map f xs (suc i) = nth_map f xs i

pub numbered_none : {X : Type 0} (xs : List X) (k : ℕ) → (k ≡ 0) ⊎ (length xs < k) → numbered xs k ≡ None
numbered_none xs zero h = refl
numbered_none xs (suc i) h = nth_past xs i (⊎_elim (λ e. absurd (omega arith)) (λ l. omega arith) h)

pub numbered_some : {X : Type 0} (xs : List X) (k : ℕ) (d : X) → 0 < k → k ≤ length xs → numbered xs k ≡ Some (get_or xs (k - 1) d)
numbered_some xs zero d some fits = absurd (omega arith)
numbered_some xs (suc i) d some fits =
    let e : suc i - 1 ≡ i = omega arith in
    nth_at xs i d (omega arith) ∙ ap (λ j. Some (get_or xs j d)) (sym e)

-- a record shows the vertex of its number
shown : (d : Document) (k : ℕ) {r : Option Node} → r ≡ record_at d k → given (of_document d) r ≡ vertex_at d k
shown d k e = ap (given (of_document d)) e ∙ sym (numbered_map (of_document d) d.nodes.now k)

-- what `get` finds at a place is the record of the next number
pub get_read : (d : Document) (k i : ℕ) (r : Option (Bor Node)) → 1 ≤ k → i ≡ k - 1 → IsItemAt d.nodes.now i r → NodeRead d k r
get_read d k i None some is at = let found = sym (numbered_none d.nodes.now k (inr (omega arith))) in
    record { found = found; shows = shown d k found }
get_read d k i (Some x) some is at =
    let found = ap Some (at.1 ∙ ap (λ j. get_or d.nodes.now j x.now) is) ∙ sym (numbered_some d.nodes.now k x.now some (omega arith)) in
    record { found = found; shows = shown d k found }

-- a node of a kind, with a style that it may have
pub record OfKind (v : Node) (k : ℕ) (most : ℕ) : Type 0 where
  pub kind : v.kind ≡ k
  pub style : v.style ≤ most

pub kinds : (v : Node) → kind_right v ≡ true → OfKind v 1 5 ⊎ (OfKind v 2 2 ⊎ OfKind v 3 2)
kinds v e =
    ⊎_elim
    (λ a. let both = and_parts (eqb v.kind 1) (leb v.style 5) a in
    inl record { kind = eqb-true v.kind 1 both.0; style = leb-true v.style 5 both.1 })
    (λ a. let both = and_parts (eqb v.kind 2 || eqb v.kind 3) (leb v.style 2) a in
    inr (⊎_elim
    (λ b. inl record { kind = eqb-true v.kind 2 b; style = leb-true v.style 2 both.1 })
    (λ b. inr record { kind = eqb-true v.kind 3 b; style = leb-true v.style 2 both.1 })
    (or_cases (eqb v.kind 2) (eqb v.kind 3) both.0)))
    (or_cases (eqb v.kind 1 && leb v.style 5) ((eqb v.kind 2 || eqb v.kind 3) && leb v.style 2) e)

pub tag_lies : (text : List ℕ) (v : Node) → tag_right text v ≡ true → v.tag_start + v.tag_length ≤ length text
tag_lies text v e =
    let rest = zero_free (tag_of text v) && not (bang (tag_of text v)) in
    let here = lies text v.tag_start v.tag_length in
    let a = and_parts (leb 1 v.tag_length) (leb v.tag_length 256 && (here && rest)) e in
    let b = and_parts (leb v.tag_length 256) (here && rest) a.1 in
    leb-true (v.tag_start + v.tag_length) (length text) (and_parts here rest b.1).0

pub value_lies : (text : List ℕ) (v : Node) → value_right text v ≡ true → v.value_start + v.value_length ≤ length text
value_lies text v e =
    let scalar = leb v.value_length 4096 && lies text v.value_start v.value_length in
    let other = eqb v.value_start 0 && eqb v.value_length 0 in
    ⊎_elim
    (λ is. leb-true (v.value_start + v.value_length) (length text)
    (and_parts (leb v.value_length 4096) (lies text v.value_start v.value_length) (sym (cond-true (eqb v.kind 1) scalar other is) ∙ e)).1)
    (λ not_so. let both = and_parts (eqb v.value_start 0) (eqb v.value_length 0) (sym (cond-false (eqb v.kind 1) scalar other not_so) ∙ e) in
    let a = eqb-true v.value_start 0 both.0 in let b = eqb-true v.value_length 0 both.1 in omega arith)
    (cases_Bool (eqb v.kind 1))

pub links_lie : (n : ℕ) (links : List ℕ) (v : Node) → links_right n links v ≡ true → v.first_link + v.link_count ≤ length links
links_lie n links v e =
    let scalar = eqb v.first_link 0 && eqb v.link_count 0 in
    let inner = (not (eqb v.kind 3) || eqb (v.link_count % 2) 0) && list_all (names n) (links_of links v) in
    let other = lies links v.first_link v.link_count && inner in
    ⊎_elim
    (λ is. let both = and_parts (eqb v.first_link 0) (eqb v.link_count 0) (sym (cond-true (eqb v.kind 1) scalar other is) ∙ e) in
    let a = eqb-true v.first_link 0 both.0 in let b = eqb-true v.link_count 0 both.1 in omega arith)
    (λ not_so. leb-true (v.first_link + v.link_count) (length links)
    (and_parts (lies links v.first_link v.link_count) inner (sym (cond-false (eqb v.kind 1) scalar other not_so) ∙ e)).0)
    (cases_Bool (eqb v.kind 1))

-- a part that lies in its table
pub length_part : {X : Type 0} (xs : List X) (place n : ℕ) → place + n ≤ length xs → length (part xs place n) ≡ n
length_part xs place n h = length-take-le n (drop place xs) (simp length-drop (omega arith))

-- the parts of a Document's nodes
pub tag_within : (d : Document) (k : ℕ) (v : Node) → Some v ≡ record_at d k → v.tag_start + v.tag_length ≤ length d.text.now
tag_within d k v e = tag_lies d.text.now v (every_at (tag_right d.text.now) d.nodes.now k v d.tags (sym e))

pub value_within : (d : Document) (k : ℕ) (v : Node) → Some v ≡ record_at d k → v.value_start + v.value_length ≤ length d.text.now
value_within d k v e = value_lies d.text.now v (every_at (value_right d.text.now) d.nodes.now k v d.values (sym e))

pub links_within : (d : Document) (k : ℕ) (v : Node) → Some v ≡ record_at d k → v.first_link + v.link_count ≤ length d.links.now
links_within d k v e =
    let n = length d.nodes.now in
    links_lie n d.links.now v (every_at (links_right n d.links.now) d.nodes.now k v d.linked (sym e))

-- how many links a record has, and how many its vertex
pub count_is : (d : Document) (k : ℕ) (r : Option Node) → r ≡ record_at d k → given link_count r ≡ count_at d k
count_is d k None e = ap (given count_in) (shown d k e)
count_is d k (Some v) e =
    let long = length_part d.links.now v.first_link v.link_count (links_within d k v e) in
    ap Some (sym long) ∙ ap (given count_in) (shown d k e)

-- the kind that the number of a right node's kind names
known : (v : Node) → kind_right v ≡ true → node_kind_at v.kind ≡ Some (kind_of v.kind)
known v e =
    let is : (n : ℕ) → v.kind ≡ n → node_kind_at n ≡ Some (kind_of n) → node_kind_at v.kind ≡ Some (kind_of v.kind)
    = λ n h f. subst (λ m. node_kind_at m ≡ Some (kind_of m)) (sym h) f in
    ⊎_elim (λ k. is 1 k.kind refl) (⊎_elim (λ k. is 2 k.kind refl) (λ k. is 3 k.kind refl)) (kinds v e)

told : (n : ℕ) (k : NodeKind) (r : Result NodeKind NoSuchKind) → NodeKindOf n r → node_kind_at n ≡ Some k → result_ok r ≡ Some k
told n k (Ok j) of e = sym of ∙ e
told n k (Err j) of e = sym of.1 ∙ e

pub kind_is : (d : Document) (k : ℕ) (v : Node) (r : Result NodeKind NoSuchKind) → Some v ≡ record_at d k → NodeKindOf v.kind r → result_ok r ≡ kind_at d k
kind_is d k v r e of =
    told v.kind (kind_of v.kind) r of (known v (every_at kind_right d.nodes.now k v d.kinds (sym e)))
    ∙ ap (given kind_in) (shown d k e)
