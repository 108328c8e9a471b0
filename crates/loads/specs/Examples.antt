-- Examples, small enough to be looked at.
use Rattle.std.specs.Prelude.{◌≡◌, ℕ, zero, suc, ◌+◌, List, [], ◌∷◌, None, codes, Err, Ok, Some}
use Rattle.model.specs.declared.EventKind.{EventKind}
use Rattle.model.specs.declared.EventKind.TheVariants.{DocumentStart, DocumentEnd, Alias, Scalar as ScalarEvent, SequenceStart, SequenceEnd, MappingStart, MappingEnd}
use Rattle.model.specs.declared.NodeKind.TheVariants.{Sequence}
use Rattle.model.specs.declared.Mark.{Mark}
use Rattle.model.specs.Graph.{Vertex}
use Rattle.model.specs.Reading.{Marked}
use Rattle.serial.specs.Serialize.{default_tag}
use Rattle.composer.specs.declared.refusal.Refusal.TheVariants.{NotInTurn, UnknownAlias, AnchorAgain, TooDeep}
use Rattle.composer.specs.State.{blank, Spaces}
use Rattle.loader.specs.declared.answer.Loaded.{Loaded}
use Rattle.loader.specs.Loading.{Outcome, running}
use Rattle.loads.specs.Runs.{graph_in}

-- tables as long as a document may want them
abbrev pub full_spaces : Spaces
full_spaces = record { nodes = 4096; links = 16384; text = 65536; anchors = 4096; waiting = 16384 }

abbrev pub mark_of : ℕ → Mark
mark_of n = record { index = n; line = n; column = 0 }

-- the n-th event, with an anchor or none
abbrev pub event : ℕ → EventKind → List ℕ → Marked
event n k anchor = record { event = record { kind = k; style = 0; flags = 0; anchor = anchor; tag = []; value = [] }; start = mark_of n; end = mark_of (n + 1) }

-- what loading the events of a document comes to
abbrev pub loads : List Marked → Outcome
loads ms = running full_spaces (event 0 DocumentStart []) None None blank ms

-- a sequence that holds itself
abbrev pub itself : List Marked
itself = event 1 SequenceStart (codes "a") ∷ (event 2 Alias (codes "a") ∷ (event 3 SequenceEnd [] ∷ (event 4 DocumentEnd [] ∷ [])))

abbrev pub itself_graph : List Vertex
itself_graph = record { look = record { kind = Sequence; style = 0; tag = default_tag Sequence; value = [] }; links = 1 ∷ [] } ∷ []

pub record SmallExamples : Type 0 where
  pub loaded : (l : Loaded) × ((loads itself).answer ≡ Ok (Some l))
  pub holds_itself : graph_in (loads itself).holds ≡ itself_graph
  -- 24: an alias before its anchor
  pub alias_first : (loads (event 1 SequenceStart [] ∷ (event 2 Alias (codes "a") ∷ (event 3 ScalarEvent (codes "a") ∷ [])))).answer ≡ Err (UnknownAlias (mark_of 2))
  -- 27: one anchor twice
  pub twice : (loads (event 1 SequenceStart [] ∷ (event 2 ScalarEvent (codes "a") ∷ (event 3 ScalarEvent (codes "a") ∷ [])))).answer ≡ Err (AnchorAgain (mark_of 3) (mark_of 2))
  -- 23: a key without a value, a second root, no root, an end of the other kind
  pub key_alone : (loads (event 1 MappingStart [] ∷ (event 2 ScalarEvent [] ∷ (event 3 MappingEnd [] ∷ [])))).answer ≡ Err (NotInTurn (mark_of 3))
  pub second_root : (loads (event 1 ScalarEvent [] ∷ (event 2 ScalarEvent [] ∷ []))).answer ≡ Err (NotInTurn (mark_of 2))
  pub no_root : (loads (event 1 DocumentEnd [] ∷ [])).answer ≡ Err (NotInTurn (mark_of 1))
  pub other_end : (loads (event 1 SequenceStart [] ∷ (event 2 MappingEnd [] ∷ []))).answer ≡ Err (NotInTurn (mark_of 2))

-- n sequences, each in the one before it
abbrev pub starts : ℕ → List Marked → List Marked
starts zero ms = ms
starts (suc n) ms = event 1 SequenceStart [] ∷ starts n ms

abbrev pub stops : ℕ → List Marked → List Marked
stops zero ms = ms
stops (suc n) ms = event 2 SequenceEnd [] ∷ stops n ms

-- 256 are loaded, and the next is refused with 30
pub record DeepExamples : Type 0 where
  pub deep : (l : Loaded) × ((loads (starts 256 (stops 256 (event 3 DocumentEnd [] ∷ [])))).answer ≡ Ok (Some l))
  pub too_deep : (ms : List Marked) → (loads (starts 257 ms)).answer ≡ Err (TooDeep (mark_of 1))
