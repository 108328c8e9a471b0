-- What a sink took reads back in one way only.
use Rattle.std.proofs.Common.{◌≡◌, Bool, true, false, List, [], ◌∷◌, map, None, refl, ap, subst, arith, Ok, Some}
use Rattle.std.specs.List.{AllZip}
use Rattle.model.specs.Events.{Ev}
use Rattle.model.specs.Reading.{Marked, bare}
use Rattle.model.specs.Graph.{Book, Alike}
use Rattle.model.proofs.Alike.{alike_back, alike_on}
use Rattle.yaml.specs.Flow.{Flow}
use Rattle.document.specs.Empty.{zero_mark}
use Rattle.composer.specs.State.{Lengths}
use Rattle.loader.specs.declared.answer.Loaded.{Loaded}
use Rattle.loader.specs.declared.answer.Phase.{Phase}
use Rattle.loader.specs.Loading.{Answer, Outcome, loading, flowing}
use Rattle.runs.specs.ReadBack.{FullSized, book_loaded, Gives, LoadsBack, took_end, last_answer, OneReading}

-- a source of some events
abbrev marked : Ev → Marked
marked e = record { event = e; start = zero_mark; end = zero_mark }

bare_marked : (es : List Ev) → map bare (map marked es) ≡ es
bare_marked [] = refl
bare_marked (e ∷ es) = ap (λ q. e ∷ q) (bare_marked es)

abbrev full : Lengths
full = record { nodes = 4096; links = 16384; text = 65536; anchors = 4096; waiting = 16384 }

full_sized : FullSized full
full_sized = record { nodes = omega arith; links = omega arith; text = omega arith; anchors = omega arith; waiting = omega arith }

-- a document is not the last answer
not_last : (b : Bool) (c : Loaded) (a : Answer) → a ≡ Ok (Some c) → a ≡ last_answer b → ⊥
not_last true c a p q = cc
not_last false c a p q = cc

same_given : (l : Lengths) (o : Outcome) (x y : Book) → Gives x l o → Gives y l o → Alike x y
same_given l o x y g h =
    let again = g.loaded in
    let other = h.loaded in
    let same : h.counts ≡ g.counts = cc in
    alike_on g.alike (alike_back (subst (λ c. Alike y (book_loaded l c o.holds)) same h.alike))

same_read : (b : Bool) (xs ys : List Book) (phase : Phase) (f : Flow) → LoadsBack phase f xs (last_answer b) → LoadsBack phase f ys (last_answer b) → AllZip Alike xs ys
same_read b [] [] phase f p q = tt
same_read b [] (y ∷ ys) phase f p q =
    let h = q full full_sized in not_last b h.0.counts (loading full phase f).answer h.0.loaded (p full full_sized)
same_read b (x ∷ xs) [] phase f p q =
    let h = p full full_sized in not_last b h.0.counts (loading full phase f).answer h.0.loaded (q full full_sized)
same_read b (x ∷ xs) (y ∷ ys) phase f p q =
    let g = p full full_sized in
    let h = q full full_sized in
    (same_given full (loading full phase f) x y g.0 h.0, same_read b xs ys (loading full phase f).phase (loading full phase f).flow g.1 h.1)

pub one_reading : OneReading
one_reading taken xs ys p q =
    let f : Flow = flowing None (map marked taken) None in
    same_read (took_end taken) xs ys _ f (p f (bare_marked taken) refl) (q f (bare_marked taken) refl)
