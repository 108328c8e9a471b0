-- What a stack over a lent table holds, and what each call does to it.
use Rattle.std.specs.Prelude.{◌≡◌, ℕ, ◌+◌, ◌-◌, ◌<◌, ◌≤◌, Bool, true, false, List, [], ◌∷◌, ◌++◌, length, take, drop, replicate, slice_set, Ok, Err, Result}
use Rattle.tables.specs.declared.stack.Full.{Full}
use Rattle.tables.specs.declared.stack.NoEntry.{NoEntry}
use Rattle.std.specs.Borrow.{MutBor}
use Rattle.tables.specs.declared.stack.Stack.{Stack}

-- the entries held, the top one last
abbrev pub contents : {X : Type 0} → Stack X → List X
contents s = take s.count s.items.now

-- the entries of the table past them
abbrev pub beyond : {X : Type 0} → Stack X → List X
beyond s = drop s.count s.items.now

-- how many entries it can hold
abbrev pub room_of : {X : Type 0} → Stack X → ℕ
room_of s = length s.items.now

-- it holds n entries
pub record Counted {X : Type 0} (s : Stack X) (n : ℕ) : Type 0 where
  pub held : n ≡ length (contents s)
  pub within : n ≤ room_of s

-- it stands over the same table, which is as long as it was
pub record SameTable {X : Type 0} (before after : Stack X) : Type 0 where
  pub table : after.items.ghost_name ≡ before.items.ghost_name
  pub room : room_of after ≡ room_of before

-- a new stack holds nothing, and its table is as it was
pub record Made {X : Type 0} (items : MutBor (List X)) (made : Stack X) : Type 0 where
  pub table : made.items.ghost_name ≡ items.ghost_name
  pub room : room_of made ≡ length items.now
  pub holds : contents made ≡ []
  pub past : beyond made ≡ items.now

-- the stack was full, and nothing alters
pub record IsFull {X : Type 0} (before after : Stack X) : Type 0 where
  pub full : length (contents before) ≡ room_of before
  pub same : after ≡ before

-- the entry is the new top; the entries past it are as they were
pub record Topped {X : Type 0} (before : Stack X) (entry : X) (after : Stack X) : Type 0 where
  pub there_was_room : length (contents before) < room_of before
  pub holds : contents after ≡ contents before ++ entry ∷ []
  pub past : beyond after ≡ drop 1 (beyond before)
  pub over : SameTable before after

abbrev pub Pushed : {X : Type 0} → Stack X → X → Result (Unit {0}) Full → Stack X → Type 0
Pushed before entry (Ok u) after = Topped before entry after
Pushed before entry (Err e) after = IsFull before after

-- the stack held nothing, and nothing alters
pub record Bare {X : Type 0} (before : Stack X) (place : X) (after : Stack X) (filled : X) : Type 0 where
  pub held_none : contents before ≡ []
  pub same : after ≡ before
  pub place_same : filled ≡ place

-- the top went into the place; the empty entry stands where it was, and the entries past it are as they were
pub record Untopped {X : Type 0} (empty : X) (before after : Stack X) (filled : X) : Type 0 where
  pub held : contents before ≡ contents after ++ filled ∷ []
  pub past : beyond after ≡ empty ∷ beyond before
  pub over : SameTable before after

abbrev pub Popped : {X : Type 0} → X → Stack X → X → Bool → Stack X → X → Type 0
Popped empty before place true after filled = Untopped empty before after filled
Popped empty before place false after filled = Bare before place after filled

-- there was no such place, and nothing alters
pub record NoPlace {X : Type 0} (before : Stack X) (i : ℕ) (after : Stack X) : Type 0 where
  pub too_far : length (contents before) ≤ i
  pub same : after ≡ before

-- the entry at i is the new one, and the others are as they were
pub record Changed {X : Type 0} (before : Stack X) (i : ℕ) (entry : X) (after : Stack X) : Type 0 where
  pub there : i < length (contents before)
  pub holds : contents after ≡ slice_set (contents before) i entry
  pub past : beyond after ≡ beyond before
  pub over : SameTable before after

abbrev pub Replaced : {X : Type 0} → Stack X → ℕ → X → Result (Unit {0}) NoEntry → Stack X → Type 0
Replaced before i entry (Ok u) after = Changed before i entry after
Replaced before i entry (Err e) after = NoPlace before i after

-- nothing is held, and every entry of the table is the empty one
pub record Wiped {X : Type 0} (empty : X) (before after : Stack X) : Type 0 where
  pub holds : contents after ≡ []
  pub past : beyond after ≡ replicate (room_of before) empty
  pub over : SameTable before after

-- every entry past those held is the empty one
abbrev pub Clean : {X : Type 0} → X → Stack X → Type 0
Clean empty s = beyond s ≡ replicate (room_of s - length (contents s)) empty

-- the entries are on top, in order; those past them are as they were
pub record Grown {X : Type 0} (before : Stack X) (entries : List X) (after : Stack X) : Type 0 where
  pub there_was_room : length (contents before) + length entries ≤ room_of before
  pub holds : contents after ≡ contents before ++ entries
  pub past : beyond after ≡ drop (length entries) (beyond before)
  pub over : SameTable before after

-- there was too little room, and nothing alters
pub record NoRoom {X : Type 0} (before : Stack X) (entries : List X) (after : Stack X) : Type 0 where
  pub too_many : room_of before < length (contents before) + length entries
  pub same : after ≡ before

abbrev pub Extended : {X : Type 0} → Stack X → List X → Result (Unit {0}) Full → Stack X → Type 0
Extended before entries (Ok u) after = Grown before entries after
Extended before entries (Err e) after = NoRoom before entries after

-- at most the first n entries are left; empty ones stand where the others were
pub record Shortened {X : Type 0} (empty : X) (before : Stack X) (n : ℕ) (after : Stack X) : Type 0 where
  pub holds : contents after ≡ take n (contents before)
  pub past : beyond after ≡ replicate (length (contents before) - n) empty ++ beyond before
  pub over : SameTable before after
