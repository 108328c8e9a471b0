-- What the calls tell, in records of numbers. Fields that do not belong to the answer are 0.
use Rattle.std.specs.Prelude.{ℕ, Bool, cond, Ok, Err, Result, None, Some}
use Rattle.model.specs.declared.Mark.{Mark}
use Rattle.model.specs.Events.{cause_number}
use Rattle.yaml.specs.declared.sink.Refusal.TheVariants.{NotAllowed, NoSpace}
use Rattle.document.specs.declared.refusal.Refusal.{Refusal as NoDocument}
use Rattle.document.specs.Empty.{zero_mark}
use Rattle.document.specs.Numbers.{question_number}
use Rattle.composer.specs.declared.refusal.Refusal.{Refusal}
use Rattle.composer.specs.declared.refusal.Refusal.TheVariants.{EarlierRefused, SourceFault, NoEvent, NotInTurn, UnknownAlias, NodesFull, TextFull, AnchorAgain, AnchorsFull, ChildrenFull, TooDeep}
use Rattle.composer.specs.Refusals.{refusal_number, refusal_mark}
use Rattle.loader.specs.declared.answer.Loaded.{Loaded}
use Rattle.loader.specs.Loading.{Answer}
use Rattle.runs.specs.Writer.{why_number}
use Rattle.dumper.specs.declared.answer.Why.{Why}
use Rattle.dumper.specs.declared.answer.Why.TheVariants.{AlreadyOpened, NotOpened, Spoilt, Closed, TooFewCounts, TooDeep as DumpTooDeep, TooFewSteps, NoAnchor, Sink}
use Rattle.dumper.specs.declared.answer.Refused.{Refused as DumpRefused}
use Rattle.dumper.specs.Answers.{why_of}
use Rattle.kelfhoam_c.specs.declared.told.LoadTold.{LoadTold}
use Rattle.kelfhoam_c.specs.declared.told.CallTold.{CallTold}

abbrev pub flag_of : Bool → ℕ
flag_of b = cond b 1 0

-- 0 a document, 1 the stream's end, else the refusal's number
abbrev pub load_number : Answer → ℕ
load_number (Ok (Some l)) = 0
load_number (Ok None) = 1
load_number (Err e) = refusal_number e

-- 27: where the node begins that has the anchor already
abbrev pub first_mark : Refusal → Mark
first_mark EarlierRefused = zero_mark
first_mark (SourceFault f) = zero_mark
first_mark NoEvent = zero_mark
first_mark (NotInTurn at) = zero_mark
first_mark (UnknownAlias at) = zero_mark
first_mark (NodesFull at) = zero_mark
first_mark (TextFull at) = zero_mark
first_mark (AnchorAgain at first) = first
first_mark (AnchorsFull at) = zero_mark
first_mark (ChildrenFull at) = zero_mark
first_mark (TooDeep at) = zero_mark

-- 21: the number of the source's fault, and its place
abbrev pub fault_in : Refusal → ℕ
fault_in EarlierRefused = 0
fault_in (SourceFault f) = cause_number f.cause
fault_in NoEvent = 0
fault_in (NotInTurn at) = 0
fault_in (UnknownAlias at) = 0
fault_in (NodesFull at) = 0
fault_in (TextFull at) = 0
fault_in (AnchorAgain at first) = 0
fault_in (AnchorsFull at) = 0
fault_in (ChildrenFull at) = 0
fault_in (TooDeep at) = 0

abbrev pub place_in : Refusal → ℕ
place_in EarlierRefused = 0
place_in (SourceFault f) = f.place
place_in NoEvent = 0
place_in (NotInTurn at) = 0
place_in (UnknownAlias at) = 0
place_in (NodesFull at) = 0
place_in (TextFull at) = 0
place_in (AnchorAgain at first) = 0
place_in (AnchorsFull at) = 0
place_in (ChildrenFull at) = 0
place_in (TooDeep at) = 0

abbrev pub no_load : LoadTold
no_load = record {
  nodes = 0;
  links = 0;
  text = 0;
  anchors = 0;
  start_implicit = 0;
  end_implicit = 0;
  start = zero_mark;
  end = zero_mark;
  at = zero_mark;
  first = zero_mark;
  fault = 0;
  place = 0;
}

abbrev pub loaded_told : Loaded → LoadTold
loaded_told l = record {
  nodes = l.nodes;
  links = l.links;
  text = l.text;
  anchors = l.anchors;
  start_implicit = flag_of l.start_implicit;
  end_implicit = flag_of l.end_implicit;
  start = l.start;
  end = l.end;
  at = zero_mark;
  first = zero_mark;
  fault = 0;
  place = 0;
}

abbrev pub refused_told : Refusal → LoadTold
refused_told e = record {
  nodes = 0;
  links = 0;
  text = 0;
  anchors = 0;
  start_implicit = 0;
  end_implicit = 0;
  start = zero_mark;
  end = zero_mark;
  at = refusal_mark e;
  first = first_mark e;
  fault = fault_in e;
  place = place_in e;
}

abbrev pub load_told : Answer → LoadTold
load_told (Ok (Some l)) = loaded_told l
load_told (Ok None) = no_load
load_told (Err e) = refused_told e

-- 58 and 59: the node; 59: the size of the event that did not fit, and the space
abbrev pub node_in : Why → ℕ
node_in AlreadyOpened = 0
node_in NotOpened = 0
node_in Spoilt = 0
node_in Closed = 0
node_in TooFewCounts = 0
node_in DumpTooDeep = 0
node_in TooFewSteps = 0
node_in (NoAnchor v) = v
node_in (Sink v r) = v

abbrev pub size_in : Why → ℕ
size_in AlreadyOpened = 0
size_in NotOpened = 0
size_in Spoilt = 0
size_in Closed = 0
size_in TooFewCounts = 0
size_in DumpTooDeep = 0
size_in TooFewSteps = 0
size_in (NoAnchor v) = 0
size_in (Sink v NotAllowed) = 0
size_in (Sink v (NoSpace size space)) = size

abbrev pub space_in : Why → ℕ
space_in AlreadyOpened = 0
space_in NotOpened = 0
space_in Spoilt = 0
space_in Closed = 0
space_in TooFewCounts = 0
space_in DumpTooDeep = 0
space_in TooFewSteps = 0
space_in (NoAnchor v) = 0
space_in (Sink v NotAllowed) = 0
space_in (Sink v (NoSpace size space)) = space

abbrev pub accepted_told : ℕ → CallTold
accepted_told n = record { refusal = 0; events = n; node = 0; size = 0; space = 0 }

abbrev pub declined_told : DumpRefused → CallTold
declined_told f = record { refusal = why_number (why_of f.why); events = f.events; node = node_in f.why; size = size_in f.why; space = space_in f.why }

abbrev pub called_told : Result ℕ DumpRefused → CallTold
called_told (Ok n) = accepted_told n
called_told (Err f) = declined_told f

-- no Document stands on the tables
abbrev pub no_document_told : NoDocument → CallTold
no_document_told f = record { refusal = question_number f.question; events = 0; node = f.node; size = 0; space = 0 }
