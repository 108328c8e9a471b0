-- Counting references, and the numbers that come of it.
use Rattle.std.specs.Prelude.{◌≡◌, ℕ, ◌+◌, ◌<◌, ◌≤◌, cond, List, length, ◌==◌}
use Rattle.model.specs.Graph.{Vertex}
use Rattle.serial.specs.Numbering.{seconds, number_of}
use Rattle.walk.specs.declared.entry.Counted.{Counted}
use Rattle.walk.specs.Entries.{empty_counted, entry_at, replaced}

-- one more reference; at the second the next number
abbrev pub bumped : Counted → ℕ → Counted
bumped c last = cond (c.references + 1 == 2)
    (record { references = c.references + 1; anchor = last + 1; serialized = c.serialized })
    (record { references = c.references + 1; anchor = c.anchor; serialized = c.serialized })

abbrev pub last_after : Counted → ℕ → ℕ
last_after c last = cond (c.references + 1 == 2) (last + 1) last

-- the table and the counter can count one more reference of the node v
pub record Countable (t : List Counted) (last v : ℕ) : Type 0 where
  pub low : 1 ≤ v
  pub high : v ≤ length t
  pub few : (entry_at t v).references < 100000
  pub last_few : last < 100000

-- what one reference of the node v changes
pub record Referred (t : List Counted) (last v : ℕ) (t' : List Counted) (last' : ℕ) : Type 0 where
  pub table : t' ≡ replaced t v (bumped (entry_at t v) last)
  pub last_is : last' ≡ last_after (entry_at t v) last

-- a document with a node, a table with an empty entry for each of its nodes, and a counter at 0
pub record Ready (g : List Vertex) (t : List Counted) (last : ℕ) : Type 0 where
  pub some : 1 ≤ length g
  pub room : length g ≤ length t
  pub empty : (v : ℕ) → entry_at t v ≡ empty_counted
  pub last_is : last ≡ 0

-- every node has the number that it should have, and none is met yet
pub record Numbered (g : List Vertex) (t : List Counted) (last : ℕ) : Type 0 where
  pub anchors : (v : ℕ) → (entry_at t v).anchor ≡ number_of g v
  pub unmet : (v : ℕ) → (entry_at t v).serialized ≡ 0
  pub last_is : last ≡ length (seconds g)
