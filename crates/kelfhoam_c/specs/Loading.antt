-- The load after some documents.
use Rattle.std.specs.Prelude.{ℕ, zero, suc, List, None, Err, Ok, Some}
use Rattle.model.specs.Reading.{read_all}
use Rattle.yaml.specs.Flow.{Flow}
use Rattle.packed.specs.Packed.{packed_front}
use Rattle.composer.specs.State.{Lengths}
use Rattle.loader.specs.declared.answer.Phase.{Phase}
use Rattle.loader.specs.declared.answer.Phase.TheVariants.{Fresh}
use Rattle.loader.specs.Loading.{Answer, Outcome, loading}

-- a document is passed over; anything else stands
abbrev pub unless_loaded : Answer → Outcome → Outcome → Outcome
unless_loaded (Ok (Some l)) o next = next
unless_loaded (Ok None) o next = o
unless_loaded (Err e) o next = o

-- the load after n documents: each of them is loaded and passed over
unfoldable pub after_documents : ℕ → Lengths → Phase → Flow → Outcome
after_documents zero l phase f = loading l phase f
after_documents (suc n) l phase f =
    unless_loaded (loading l phase f).answer (loading l phase f) (after_documents n l (loading l phase f).phase (loading l phase f).flow)

-- packed events, before the first
abbrev pub packed_flow : List ℕ → Flow
packed_flow bytes = record { latest = None; coming = read_all packed_front bytes }

-- the lengths of five tables
abbrev pub lengths_by : ℕ → ℕ → ℕ → ℕ → ℕ → Lengths
lengths_by nodes links text anchors waiting = record { nodes = nodes; links = links; text = text; anchors = anchors; waiting = waiting }

-- what a fresh loader of these bytes answers after n documents, in tables of these lengths
abbrev pub answer_after : ℕ → Lengths → List ℕ → Answer
answer_after n l bytes = (after_documents n l Fresh (packed_flow bytes)).answer
