-- Whether a stream's end was taken.
use Rattle.std.proofs.Common.{◌≡◌, Bool, true, false, ◌||◌, eqb, List, [], ◌∷◌, ◌++◌, sym, refl, ap, ◌∙◌}
use Rattle.std.specs.List.{flat_map}
use Rattle.std.proofs.lemmas.Bool.{or_from, or_parts}
use Rattle.model.specs.declared.EventKind.TheVariants.{StreamEnd}
use Rattle.model.specs.Events.{Ev, kind_number}
use Rattle.serial.specs.Numbering.{anchor_of}
use Rattle.runs.specs.Writer.{Due, events, has_kind, walk_dues, book_dues}
use Rattle.runs.specs.Holds.{Piece, events_of, inner_of}
use Rattle.runs.specs.ReadBack.{took_end}
use Rattle.runs.proofs.Wanted.{walk_events_lem, book_events_lem, ends_stream, walk_kinds, book_no_end}

kind_end : (ds : List Due) → took_end (events ds) ≡ has_kind StreamEnd ds
kind_end [] = refl
kind_end (d ∷ ds) = ap (λ b. eqb (kind_number d.event.kind) 2 || b) (kind_end ds)

pub end_append : (xs ys : List Ev) → took_end (xs ++ ys) ≡ (took_end xs || took_end ys)
end_append [] ys = refl
end_append (x ∷ xs) ys = or_assoc (eqb (kind_number x.kind) 2) (took_end xs) (took_end ys) (end_append xs ys)
  where
    or_assoc : (a b c : Bool) {d : Bool} → d ≡ (b || c) → (a || d) ≡ ((a || b) || c)
    or_assoc true b c e = refl
    or_assoc false b c e = e

piece_no_end : (p : Piece) → took_end (events_of p) ≡ false
piece_no_end p = ap took_end (sym (book_events_lem p.book p.tokens)) ∙ kind_end (book_dues p.book p.tokens) ∙ book_no_end p.book p.tokens

pub pieces_no_end : (ps : List Piece) → took_end (flat_map events_of ps) ≡ false
pieces_no_end [] = refl
pieces_no_end (p ∷ ps) = end_append (events_of p) (flat_map events_of ps) ∙ or_from _ _ (piece_no_end p) (pieces_no_end ps)

pub begun_no_end : (p : Piece) (came later : List Ev) → came ++ later ≡ inner_of p → took_end came ≡ false
begun_no_end p came later e =
    let walk : List Due = walk_dues (anchor_of p.book.nodes) p.book.nodes p.tokens in
    (or_parts (took_end came) (took_end later)
    (sym (end_append came later) ∙ ap took_end (e ∙ sym (walk_events_lem (anchor_of p.book.nodes) p.book.nodes p.tokens)) ∙ kind_end walk
    ∙ walk_kinds ends_stream (anchor_of p.book.nodes) p.book.nodes p.tokens)).0
