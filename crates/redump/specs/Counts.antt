-- What the totals count.
use Rattle.std.specs.Prelude.{ℕ, ◌+◌, ◌≤◌, min, Ok, Err, Result}
use Rattle.loader.specs.declared.answer.Loaded.{Loaded}
use Rattle.dumper.specs.declared.answer.Refused.{Refused}
use Rattle.redump.specs.declared.Totals.{Totals}
use Rattle.redump.specs.declared.Refusal.{Refusal}
use Rattle.redump.specs.declared.Refusal.TheVariants.{Load, Stand, Dump}

-- the events that a call of the writer handed on
abbrev pub handed_on : Result ℕ Refused → ℕ
handed_on (Ok n) = n
handed_on (Err f) = f.events

-- those events are counted besides, up to the largest number
abbrev pub with_events : Totals → ℕ → Totals
with_events t n = record t { events = min (t.events + n) 18446744073709551615 }

-- a document that was dumped whole is counted besides, with its nodes and links
abbrev pub with_document : Totals → Loaded → Totals
with_document t l = record t {
  documents = min (t.documents + 1) 18446744073709551615;
  nodes = min (t.nodes + l.nodes) 18446744073709551615;
  links = min (t.links + l.links) 18446744073709551615;
}

-- what a refused call handed on is among the events counted
abbrev pub Counts : Totals → Refusal → Type 0
Counts t (Load r) = Unit {0}
Counts t (Stand r) = Unit {0}
Counts t (Dump f) = f.events ≤ t.events
