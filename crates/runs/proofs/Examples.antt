-- A run, worked out: a document of one scalar is dumped by a fresh writer, opening is then refused, and the writer is closed.
use Rattle.std.proofs.Common.{◌≡◌, ℕ, true, false, List, [], ◌∷◌, ◌++◌, length, codes, refl, inl, inr, arith}
use mathlib.Core.List.Memᴰ
use Rattle.model.specs.declared.EventKind.TheVariants.{StreamStart, StreamEnd, DocumentStart, DocumentEnd, Scalar as ScalarEvent}
use Rattle.model.specs.declared.NodeKind.TheVariants.{Scalar}
use Rattle.model.specs.Events.{Ev}
use Rattle.model.specs.Graph.{Book}
use Rattle.serial.specs.Walk.{first, Step, Steps, Walk}
use Rattle.serial.specs.Serialize.{plain}
use Rattle.document.specs.Sound.{SoundBook}
use Rattle.runs.specs.Writer.{State, Handed, opening, closing, dumping, NumberedAgain, Dumps, own, accepted, refused, Called}
use Rattle.runs.specs.Runs.{Turn, Fresh, Run, reports, written}
use Rattle.runs.specs.Runs.Run.{none, more}
use Rattle.runs.proofs.Answering.{dump_passes, open_fails, close_passes}

abbrev book : Book
book = record { nodes = record { look = record { kind = Scalar; style = 1; tag = codes "tag:yaml.org,2002:str"; value = codes "a" }; links = [] } ∷ []; start_implicit = true; end_implicit = true }

abbrev handed : Handed
handed = record { book = book; counts = 1; steps = 1 }

walk : Walk book.nodes 256 (first 1 ∷ []) (1 ∷ [])
walk = record { steps = Steps.more (Step.leaf refl refl refl) (omega arith) Steps.none }

-- every event has the size 1, and there is room for nine
abbrev weight : Ev → ℕ
weight e = 1

abbrev made : State
made = record { opened = false; closed = false; spoilt = false; taken = []; room = 9 }

abbrev scalar : Ev
scalar = record { kind = ScalarEvent; style = 1; flags = 3; anchor = []; tag = codes "tag:yaml.org,2002:str"; value = codes "a" }

abbrev document : List Ev
document = plain StreamStart 0 ∷ (plain DocumentStart 1 ∷ (scalar ∷ (plain DocumentEnd 1 ∷ [])))

abbrev dumped : State
dumped = record { opened = true; closed = false; spoilt = false; taken = document; room = 5 }

abbrev ended : State
ended = record { opened = true; closed = true; spoilt = false; taken = document ++ plain StreamEnd 0 ∷ []; room = 4 }

sound : SoundBook book
sound = record {
  few = omega arith;
  each = (record { style = omega arith; tag_there = omega arith; tag_short = omega arith; tag_zero_free = refl; tag_not_bang = refl; value_short = omega arith; links_name = tt; by_kind = refl }, tt);
  few_links = omega arith;
  few_bytes = omega arith;
}

no_again : NumberedAgain book (first 1 ∷ [])
no_again v m = elim (Memᴰ.cases_cons m) [ inl e ↦ cc | inr n ↦ absurd (Memᴰ.not-nil n) ]

dump : Called weight (dumping handed) made (accepted 4) dumped
dump = record {
  dues = _;
  passed = dump_passes handed made (omega arith) refl refl (omega arith) walk (omega arith) no_again;
  wanted = Dumps.walked walk refl;
  counted = refl;
  took = record { taken = refl; room = refl; opened = refl; closed = refl };
  spoilt = refl;
}

open_again : Called weight opening dumped (refused 0 (own 51)) dumped
open_again = record { failed = open_fails dumped refl; none_taken = refl; same = refl }

close : Called weight closing dumped (accepted 1) ended
close = record {
  dues = _;
  passed = close_passes dumped refl refl;
  wanted = refl;
  counted = refl;
  took = record { taken = refl; room = refl; opened = refl; closed = refl };
  spoilt = refl;
}

abbrev turns : List Turn
turns = record { before = made; call = dumping handed; answer = accepted 4; after = dumped }
    ∷ (record { before = dumped; call = opening; answer = refused 0 (own 51); after = dumped }
    ∷ (record { before = dumped; call = closing; answer = accepted 1; after = ended } ∷ []))

fresh : Fresh made
fresh = record { not_opened = refl; not_closed = refl; not_spoilt = refl; nothing_taken = refl }

run : Run weight made turns ended
run = more closing (accepted 1) (more opening (refused 0 (own 51)) (more (dumping handed) (accepted 4) (none refl refl) sound dump refl) tt open_again refl) tt close refl

all_reported : reports turns ≡ length ended.taken
all_reported = refl

one_written : written turns ≡ book ∷ []
one_written = refl
