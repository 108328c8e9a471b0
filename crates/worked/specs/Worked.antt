-- Examples of loading and dumping, worked out to the end.
use Rattle.std.specs.Prelude.{◌≡◌, ℕ, true, false, List, [], ◌∷◌, ◌++◌, length, None, codes, Ok, Some}
use Rattle.model.specs.declared.NodeKind.TheVariants.{Scalar, Sequence}
use Rattle.model.specs.Graph.{Vertex, Book}
use Rattle.model.specs.Reading.{read_all, write_all}
use Rattle.yaml.specs.Flow.{Flow}
use Rattle.packed.specs.Packed.{packed_front}
use Rattle.packed.specs.Examples.{bytes}
use Rattle.lines.specs.Line.{line_of}
use Rattle.serial.specs.Walk.{Token, first, again, leave, Walk}
use Rattle.serial.specs.Numbering.{name}
use Rattle.serial.specs.Serialize.{default_tag, book_events}
use Rattle.composer.specs.State.{Lengths}
use Rattle.loader.specs.declared.answer.Loaded.{Loaded}
use Rattle.loader.specs.declared.answer.Phase.TheVariants.{Fresh}
use Rattle.loader.specs.Loading.{Outcome, loading}
use Rattle.loads.specs.Runs.{graph_in}
use Rattle.runs.specs.Writer.{State, Handed, dumping, Fails, Wants, stream_start, stream_end, due_of}

-- full-sized tables
abbrev pub full : Lengths
full = record { nodes = 4096; links = 16384; text = 65536; anchors = 4096; waiting = 16384 }

abbrev pub scalar : ℕ → List ℕ → Vertex
scalar style value = record { look = record { kind = Scalar; style = style; tag = default_tag Scalar; value = value }; links = [] }

abbrev pub sequence : ℕ → List ℕ → Vertex
sequence style links = record { look = record { kind = Sequence; style = style; tag = default_tag Sequence; value = [] }; links = links }

-- the packed book: a sequence of the scalar 15 and an alias of it
abbrev pub input : Flow
input = record { latest = None; coming = read_all packed_front bytes }

abbrev pub load₁ : Outcome
load₁ = loading full Fresh input

abbrev pub load₂ : Outcome
load₂ = loading full load₁.phase load₁.flow

abbrev pub book : Book
book = record { nodes = sequence 1 (2 ∷ (2 ∷ [])) ∷ (scalar 1 (codes "15") ∷ []); start_implicit = true; end_implicit = true }

abbrev pub book_tokens : List Token
book_tokens = first 1 ∷ (first 2 ∷ (again 2 ∷ (leave 1 ∷ [])))

abbrev pub line : List ℕ → List ℕ
line text = text ++ 10 ∷ []

abbrev pub book_lines : List ℕ
book_lines =
    line (codes "+STR 0 0") ++ (line (codes "+DOC 0 1")
    ++ (line (codes "+SEQ 1 1 <tag:yaml.org,2002:seq") ++ (line (codes "=VAL 1 3 &id001 <tag:yaml.org,2002:str :15")
    ++ (line (codes "=ALI 0 0 &id001") ++ (line (codes "-SEQ 0 0") ++ (line (codes "-DOC 0 1") ++ line (codes "-STR 0 0")))))))

-- a sequence that holds itself
abbrev pub itself : Book
itself = record { nodes = sequence 0 (1 ∷ []) ∷ []; start_implicit = false; end_implicit = false }

abbrev pub itself_tokens : List Token
itself_tokens = first 1 ∷ (again 1 ∷ (leave 1 ∷ []))

-- two inner sequences that share a scalar
abbrev pub sharing : Book
sharing = record { nodes = sequence 0 (2 ∷ (4 ∷ [])) ∷ (sequence 0 (3 ∷ []) ∷ (scalar 0 [] ∷ (sequence 0 (3 ∷ []) ∷ []))); start_implicit = false; end_implicit = false }

abbrev pub sharing_tokens : List Token
sharing_tokens = first 1 ∷ (first 2 ∷ (first 3 ∷ (leave 2 ∷ (first 4 ∷ (again 3 ∷ (leave 4 ∷ (leave 1 ∷ [])))))))

abbrev pub handing : Book → Handed
handing b = record { book = b; counts = 4096; steps = 20481 }

abbrev pub empty : Book
empty = record { nodes = []; start_implicit = false; end_implicit = false }

pub record Worked : Type 0 where
  -- the book is loaded, and the stream then ends
  pub is_book_loaded : (l : Loaded) × (load₁.answer ≡ Ok (Some l))
  pub book_graph : graph_in load₁.holds ≡ book.nodes
  pub book_over : load₂.answer ≡ Ok None
  -- dumped into lines, and closed
  pub book_walk : Walk book.nodes 256 book_tokens (2 ∷ (1 ∷ []))
  pub are_book_lines : write_all line_of (stream_start ∷ (book_events book book_tokens ++ stream_end ∷ [])) ≡ book_lines
  -- a sequence holding itself is five events once the stream is open
  pub itself_walk : Walk itself.nodes 256 itself_tokens (1 ∷ [])
  pub itself_five : length (book_events itself itself_tokens) ≡ 5
  -- a scalar shared by two inner sequences has no anchor: 58, of any writer that is neither spoilt nor closed
  pub sharing_walk : Walk sharing.nodes 256 sharing_tokens (4 ∷ (3 ∷ (2 ∷ (1 ∷ []))))
  pub sharing_refused : (s : State) → s.spoilt ≡ false → s.closed ≡ false → Fails (dumping (handing sharing)) s 58
  -- names
  pub seven : name 7 ≡ codes "id007"
  pub thousand : name 1000 ≡ codes "id1000"
  -- an empty Document: two events of a fresh writer, none of a closed one
  pub empty_fresh : (s : State) → s.opened ≡ false → s.closed ≡ false → Wants (dumping (handing empty)) s (due_of 0 stream_start ∷ (due_of 0 stream_end ∷ []))
  pub empty_closed : (s : State) → s.opened ≡ true → s.closed ≡ true → Wants (dumping (handing empty)) s []
