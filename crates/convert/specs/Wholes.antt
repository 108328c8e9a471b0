-- A source's events, each put together whole.
use Rattle.std.specs.Prelude.{◌≡◌, replicate, Some, None, Ok, Err, Option, Result}
use Rattle.model.specs.declared.Fault.{Fault}
use Rattle.model.specs.Reading.{Marked}
use Rattle.yaml.specs.Shapes.{ev_of}
use Rattle.yaml.specs.Flow.{Flow, Came, Over}
use Rattle.convert.specs.declared.texts.Texts.{Texts}
use Rattle.convert.specs.declared.whole.Whole.{Whole}

-- room in which no text stands
pub record Blank (t : Texts) : Type 0 where
  pub anchor : t.anchor ≡ replicate 64 0
  pub tag : t.tag ≡ replicate 256 0
  pub value : t.value ≡ replicate 4096 0

-- the event of a record, with its marks
abbrev pub marked_of : Whole → Marked
marked_of w = record { event = ev_of w.event; start = w.start; end = w.end }

-- the first event to come, whole; at the end none, or the fault
abbrev pub GaveWhole : Flow → Result (Option Whole) Fault → Flow → Type 0
GaveWhole before (Ok (Some w)) after = Came before (marked_of w) after
GaveWhole before (Ok None) after = Over before None after
GaveWhole before (Err f) after = Over before (Some f) after
