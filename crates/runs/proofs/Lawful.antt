-- The law over whole runs of a writer, proved.
use Rattle.std.proofs.Common.{◌≡◌, true, ◌||◌, List, [], ◌∷◌, map, None, sym, refl, ap, ◌∙◌, subst, Err, Ok}
use Rattle.std.specs.List.{flat_map}
use Rattle.std.proofs.lemmas.List.{append-nil}
use Rattle.std.proofs.lemmas.Bool.{or_from}
use Rattle.model.specs.Graph.{Book}
use Rattle.yaml.specs.Flow.{Flow}
use Rattle.composer.specs.declared.refusal.Refusal.TheVariants.{NoEvent}
use Rattle.loader.specs.declared.answer.Phase.TheVariants.{Fresh as FreshPhase}
use Rattle.loader.specs.Loading.{Answer, loading, flowing}
use Rattle.runs.specs.Writer.{State, stream_start, stream_end}
use Rattle.runs.specs.Holds.{book_of, start_of, Holds, unopened, standing, ended, broken}
use Rattle.runs.specs.Holds.{events_of as piece_events}
use Rattle.runs.specs.ReadBack.{LoadsBack, took_end, last_answer, ReadsBack}
use Rattle.runs.specs.Law.{LawOfRuns}
use Rattle.runs.proofs.Pieces.{begun_allowed}
use Rattle.runs.proofs.Ends.{end_append, pieces_no_end, begun_no_end}
use Rattle.runs.proofs.Reading.{none_left, then_nothing, then_end, then_broken, from_start}
use Rattle.runs.proofs.Holding.{run_holds}
use Rattle.runs.proofs.Adding.{run_counted, run_fits}

-- a source that gives nothing after its events
source_as : (f : Flow) → f.coming.after ≡ None → f ≡ flowing f.latest f.coming.events None
source_as f e = λ i. record { latest = f.latest; coming = record { events = f.coming.events; after = e i } }

from_source : (books : List Book) (last : Answer) (f : Flow) → f.coming.after ≡ None → LoadsBack FreshPhase (flowing f.latest f.coming.events None) books last → LoadsBack FreshPhase f books last
from_source books last f e h = subst (λ x. LoadsBack FreshPhase x books last) (sym (source_as f e)) h

-- with the documents and the last answer that are told
told : (books books' : List Book) (last last' : Answer) (f : Flow) → books ≡ books' → last ≡ last' → LoadsBack FreshPhase f books' last' → LoadsBack FreshPhase f books last
told books books' last last' f e g h = subst (λ bs. LoadsBack FreshPhase f bs last) (sym e) (subst (λ a. LoadsBack FreshPhase f books' a) (sym g) h)

pub holds_read : {s : State} {books : List Book} → Holds s books → ReadsBack s.taken books
holds_read {s} {books} (unopened e u) f is none =
    told books [] (last_answer (took_end s.taken)) (Err NoEvent) f e (ap (λ es. last_answer (took_end es)) u.taken)
    (from_source [] (Err NoEvent) f none (λ l full. ap (λ q. (loading l FreshPhase (flowing f.latest q None)).answer) (none_left f.coming.events (is ∙ u.taken))))
holds_read {s} {books} (standing ps e h) f is none =
    told books (map book_of ps) (last_answer (took_end s.taken)) (Err NoEvent) f e (ap (λ es. last_answer (took_end es)) h.taken ∙ ap last_answer (pieces_no_end ps))
    (from_source (map book_of ps) (Err NoEvent) f none
    (from_start [] (Err NoEvent) refl then_nothing ps f.latest f.coming.events
    (is ∙ h.taken ∙ ap (λ es. stream_start ∷ es) (sym (append-nil (flat_map piece_events ps))))))
holds_read {s} {books} (ended ps e h) f is none =
    told books (map book_of ps) (last_answer (took_end s.taken)) (Ok None) f e
    (ap (λ es. last_answer (took_end es)) h.taken ∙ ap last_answer (end_append (flat_map piece_events ps) (stream_end ∷ []) ∙ ap (λ b. b || true) (pieces_no_end ps)))
    (from_source (map book_of ps) (Ok None) f none
    (from_start (stream_end ∷ []) (Ok None) refl then_end ps f.latest f.coming.events (is ∙ h.taken)))
holds_read {s} {books} (broken ps p e h) f is none =
    told books (map book_of ps) (last_answer (took_end s.taken)) (Err NoEvent) f e
    (ap (λ es. last_answer (took_end es)) h.taken
    ∙ ap last_answer (end_append (flat_map piece_events ps) (start_of p ∷ h.came) ∙ or_from _ _ (pieces_no_end ps) (begun_no_end p h.came h.later h.split)))
    (from_source (map book_of ps) (Err NoEvent) f none
    (from_start (start_of p ∷ h.came) (Err NoEvent) (begun_allowed p h.came h.later h.split) (then_broken p h.came h.later h.split) ps f.latest f.coming.events (is ∙ h.taken)))

pub law : LawOfRuns
law weight start f turns end r = record { counted = run_counted f r; fits = run_fits r; reads_back = holds_read (run_holds f r) }
