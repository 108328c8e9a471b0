-- What holds of a document that is handed on whole or in part: its events are allowed, compose to a document alike to it, and keep within the limits on the way.
use Rattle.std.proofs.Common.{◌≡◌, ℕ, ◌+◌, ◌≤◌, true, eqb, ◌≢◌, List, [], ◌∷◌, ◌++◌, length, sum_by, sym, refl, ap, ◌∙◌, subst, arith}
use mathlib.Core.List.{Memᴰ}
use Rattle.std.specs.List.{flat_map}
use Rattle.std.proofs.lemmas.List.Sums.{sum_by-cons}
use Rattle.std.proofs.lemmas.Bool.{cond-false, ne_eqb, and_parts, and_from}
use Rattle.model.specs.Events.{Ev, allowed, all_allowed}
use Rattle.model.specs.Graph.{Vertex}
use Rattle.serial.specs.Walk.{again}
use Rattle.serial.specs.Numbering.{number_of, name, anchor_of}
use Rattle.serial.specs.Compose.{Composed, TakesAll}
use Rattle.serial.specs.RoundTrip.{Sound, Tells, Back}
use Rattle.serial.specs.Stocks.{all_links, all_text, stock}
use Rattle.serial.proofs.Anchors.{anchors_apart, round_trip_anchored}
use Rattle.serial.proofs.Allowed.{walk_allowed, anchor_within, book_allowed}
use Rattle.serial.proofs.Counts.{met_few}
use Rattle.serial.proofs.Stocks.{bounds_kept, counting}
use Rattle.document.specs.Sound.{link_length, text_bytes}
use Rattle.composer.specs.State.{Lengths, spaces_for}
use Rattle.loads.specs.Room.{EventsFit}
use Rattle.runs.specs.Writer.{deepest}
use Rattle.runs.specs.Holds.{Piece, events_of, start_of, inner_of, end_of}
use Rattle.runs.specs.ReadBack.{FullSized}
use Rattle.runs.proofs.Sounds.{sound_nodes, looks_within}
use Rattle.runs.proofs.Counting.{some_walked}

-- a number is an anchor
pub anchor_given : (g : List Vertex) (v : ℕ) → number_of g v ≢ 0 → anchor_of g v ≢ []
anchor_given g v n e =
    let is : anchor_of g v ≡ name (number_of g v) = cond-false (eqb (number_of g v) 0) [] (name (number_of g v)) (ne_eqb (number_of g v) 0 n) in
    let long : length (name (number_of g v)) ≡ 0 = ap length (sym is ∙ e) in
    omega (arith, long)

-- the sums of a document
links_sum : (g : List Vertex) → sum_by link_length g ≡ all_links g
links_sum [] = refl
links_sum (x ∷ g) = sum_by-cons link_length x g ∙ ap (λ n. length x.links + n) (links_sum g)

text_sum : (g : List Vertex) → sum_by text_bytes g ≡ all_text g
text_sum [] = refl
text_sum (x ∷ g) = sum_by-cons text_bytes x g ∙ ap (λ n. text_bytes x + n) (text_sum g)

-- of some events, the first are allowed if all are, and composed if all are
pub front_allowed : (xs ys : List Ev) → all_allowed (xs ++ ys) ≡ true → all_allowed xs ≡ true
front_allowed [] ys a = refl
front_allowed (x ∷ xs) ys a =
    let r = and_parts (allowed x) (all_allowed (xs ++ ys)) a in
    and_from (allowed x) (all_allowed xs) r.0 (front_allowed xs ys r.1)

pub append_allowed : (xs ys : List Ev) → all_allowed xs ≡ true → all_allowed ys ≡ true → all_allowed (xs ++ ys) ≡ true
append_allowed [] ys a b = b
append_allowed (x ∷ xs) ys a b =
    let r = and_parts (allowed x) (all_allowed xs) a in
    and_from (allowed x) (all_allowed (xs ++ ys)) r.0 (append_allowed xs ys r.1 b)

pub front_taken : {s t : Composed} {es : List Ev} → TakesAll s es t → (xs ys : List Ev) → es ≡ xs ++ ys → (m : Composed) × TakesAll s xs m
front_taken {s = s} TakesAll.none [] ys e = (s, TakesAll.none)
front_taken TakesAll.none (x ∷ xs) ys e = cc
front_taken (TakesAll.more {s = s} one others) [] ys e = (s, TakesAll.none)
front_taken (TakesAll.more {s = s} {t = t} {e = y} {es = es} one others) (x ∷ xs) ys e =
    let same : y ≡ x = cc in
    let tail : es ≡ xs ++ ys = cc in
    let r = front_taken others xs ys tail in
    (r.0, subst (λ z. TakesAll s (z ∷ xs) r.0) same (TakesAll.more one r.1))

module _ (p : Piece) where
  g : List Vertex
  g = p.book.nodes

  some : 1 ≤ length p.book.nodes
  some = some_walked p.walk

  sound : Sound p.book.nodes
  sound = sound_nodes p.book p.sound some

  given : (v : ℕ) → Memᴰ (again v) p.tokens → anchor_of p.book.nodes v ≢ []
  given v m = anchor_given p.book.nodes v (p.numbered_again v m)

  tells : Tells (anchor_of p.book.nodes) p.tokens
  tells = record { apart = anchors_apart p.book.nodes; given = given }

  pub back : Back (anchor_of p.book.nodes) p.book p.tokens
  back = round_trip_anchored p.book deepest p.tokens p.seen sound p.walk given

  pub inner_allowed : all_allowed (inner_of p) ≡ true
  inner_allowed = walk_allowed p.book.nodes (anchor_of p.book.nodes) p.tokens (looks_within p.book p.sound) (anchor_within p.book.nodes) given

  pub piece_allowed : all_allowed (events_of p) ≡ true
  piece_allowed = book_allowed p.book p.tokens (looks_within p.book p.sound) given

  -- with full-sized tables there is space all the way
  pub inner_fits : (l : Lengths) → FullSized l → EventsFit (spaces_for l) (inner_of p)
  inner_fits l full done later s taken e =
      let b = bounds_kept p.book.nodes deepest p.tokens p.seen (anchor_of p.book.nodes) done later s sound p.walk tells taken e in
      let c = counting p.book.nodes deepest p.tokens p.seen (anchor_of p.book.nodes) back.back sound p.walk tells back.composes in
      let few = met_few p.walk in
      let links : stock s ≤ 16385 = omega (arith, b.links_few, c.links_are_met, c.no_more_links, links_sum p.book.nodes, p.sound.few_links) in
      record {
        nodes = omega (arith, b.nodes_few, few, p.sound.few, full.nodes);
        text = omega (arith, b.text_few, c.text, c.no_more_text, text_sum p.book.nodes, p.sound.few_bytes, full.text);
        names = omega (arith, b.names_few, few, p.sound.few, full.anchors);
        links = omega (arith, links, full.links);
        waits = omega (arith, links, full.waiting);
        opens = b.open_few;
      }

pub pieces_allowed : (ps : List Piece) → all_allowed (flat_map events_of ps) ≡ true
pieces_allowed [] = refl
pieces_allowed (p ∷ ps) = append_allowed (events_of p) (flat_map events_of ps) (piece_allowed p) (pieces_allowed ps)

-- a document's start and the beginning of its nodes' events are allowed
pub begun_allowed : (p : Piece) (came later : List Ev) → came ++ later ≡ inner_of p → all_allowed (start_of p ∷ came) ≡ true
begun_allowed p came later e =
    and_from (allowed (start_of p)) (all_allowed came) (and_parts (allowed (start_of p)) (all_allowed (inner_of p ++ end_of p ∷ [])) (piece_allowed p)).0
    (front_allowed came later (ap all_allowed e ∙ inner_allowed p))
