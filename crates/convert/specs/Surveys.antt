-- What a survey of a source tells.
use Rattle.std.specs.Prelude.{◌≡◌, ℕ, ◌+◌, ◌-◌, ◌≤◌, cond, List, [], ◌∷◌, length, drop, Some, None, Ok, Err, Result, ◌==◌, slice_index, slice_set}
use Rattle.model.specs.declared.EventKind.{EventKind}
use Rattle.model.specs.declared.EventKind.TheVariants.{StreamStart, StreamEnd, DocumentStart, DocumentEnd, Alias, Scalar, SequenceStart, SequenceEnd, MappingStart, MappingEnd}
use Rattle.model.specs.Events.{Ev, kind_number}
use Rattle.model.specs.Reading.{Marked}
use Rattle.yaml.specs.Flow.{Flow}
use Rattle.convert.specs.Handing.{total, first_ones, AllHanded}
use Rattle.convert.specs.declared.tally.Survey.{Survey}
use Rattle.convert.specs.declared.tally.Unsurveyed.{Unsurveyed}
use Rattle.convert.specs.declared.tally.Unsurveyed.TheVariants.{Faulty, TooLarge}

-- how many events have a kind
abbrev pub of_kind : EventKind → List Ev → ℕ
of_kind k [] = 0
of_kind k (e ∷ es) = cond (kind_number e.kind == kind_number k) 1 0 + of_kind k es

abbrev given : ℕ → ℕ
given n = cond (n == 0) 0 1

-- 1 for an event of a kind, with an anchor of that length, that gives a node an anchor
abbrev pub bears_anchor : EventKind → ℕ → ℕ
bears_anchor StreamStart n = given n
bears_anchor StreamEnd n = given n
bears_anchor DocumentStart n = given n
bears_anchor DocumentEnd n = given n
bears_anchor Alias n = 0
bears_anchor Scalar n = given n
bears_anchor SequenceStart n = given n
bears_anchor SequenceEnd n = given n
bears_anchor MappingStart n = given n
bears_anchor MappingEnd n = given n

-- how many events give a node an anchor
abbrev pub anchored : List Ev → ℕ
anchored [] = 0
anchored (e ∷ es) = bears_anchor e.kind (length e.anchor) + anchored es

-- the counts are those of these events
pub record Tallied (weight : Ev → ℕ) (es : List Ev) (events : ℕ) (kinds : List ℕ) (anchors bytes : ℕ) : Type 0 where
  pub all : events ≡ length es
  pub kind : (k : EventKind) → slice_index kinds (kind_number k - 1) ≡ of_kind k es
  pub anchor : anchors ≡ anchored es
  pub byte : bytes ≡ total weight es

-- the next event's size takes the sum past 2^64
pub record Overflows (weight : Ev → ℕ) (f₀ : Flow) (n : ℕ) (bytes : ℕ) : Type 0 where
  pub next_one : Marked
  pub rest : List Marked
  pub is_next : drop n f₀.coming.events ≡ next_one ∷ rest
  pub large : 18446744073709551616 ≤ bytes + weight next_one.event

abbrev stopping : (Ev → ℕ) → Flow → ℕ → ℕ → Result (Unit {0}) Unsurveyed → Flow → Type 0
stopping weight f₀ n bytes (Ok u) f = AllHanded f₀ n f × (f₀.coming.after ≡ None)
stopping weight f₀ n bytes (Err (Faulty g)) f = AllHanded f₀ n f × (f₀.coming.after ≡ Some g)
stopping weight f₀ n bytes (Err TooLarge) f = Overflows weight f₀ n bytes

-- The counts are those of the events to come, up to the end, the fault or the first that makes the sum too large.
pub record Surveyed (weight : Ev → ℕ) (f₀ : Flow) (r : Survey) (f : Flow) : Type 0 where
  pub tallied : Tallied weight (first_ones r.events f₀) r.events r.kinds r.anchors r.bytes
  pub end : stopping weight f₀ r.events r.bytes r.stop f

-- each event is a byte at least: no count is larger than the events, and these are no more than the bytes
pub record Bounded (s : Survey) : Type 0 where
  pub ten : length s.kinds ≡ 10
  pub heavy : s.events ≤ s.bytes
  pub few_kinds : (k : ℕ) → slice_index s.kinds k ≤ s.events
  pub few_anchors : s.anchors ≤ s.events

-- nothing was counted yet
pub record Untouched (s : Survey) : Type 0 where
  pub events : s.events ≡ 0
  pub kinds : (k : EventKind) → slice_index s.kinds (kind_number k - 1) ≡ 0
  pub anchors : s.anchors ≡ 0
  pub bytes : s.bytes ≡ 0
  pub stop : s.stop ≡ Ok tt

-- one event more was counted
pub record Added (before : Survey) (e : Ev) (size : ℕ) (after : Survey) : Type 0 where
  pub events : after.events ≡ before.events + 1
  pub kinds : after.kinds ≡ slice_set before.kinds (kind_number e.kind - 1) (slice_index before.kinds (kind_number e.kind - 1) + 1)
  pub anchors : after.anchors ≡ before.anchors + bears_anchor e.kind (length e.anchor)
  pub bytes : after.bytes ≡ before.bytes + size

-- or its size takes the sum past 2^64, and nothing alters
pub record Overflown (before : Survey) (size : ℕ) (after : Survey) : Type 0 where
  pub large : 18446744073709551616 ≤ before.bytes + size
  pub same : after ≡ before

abbrev pub Adds : Survey → Ev → ℕ → Result (Unit {0}) Unsurveyed → Survey → Type 0
Adds before e size (Ok u) after = Added before e size after
Adds before e size (Err (Faulty g)) after = ⊥
Adds before e size (Err TooLarge) after = Overflown before size after
