-- What the calls of a run report, and when they are refused for lack of space.
use Rattle.std.specs.Prelude.{◌≡◌, ℕ, ◌+◌, ◌<◌, Bool, true, false, cond, List, [], ◌∷◌, ◌++◌, length}
use Rattle.std.specs.List.{AllByRecursion}
use Rattle.model.specs.Events.{Ev}
use Rattle.model.specs.Graph.{Vertex}
use Rattle.serial.specs.Walks.{TellsLed, sum_where, collection_count, link_count}
use Rattle.runs.specs.Writer.{State, Call, opening, closing, dumping, Due, events, total, Passes, Wants, Answer, accepted, refused, is_refused}
use Rattle.runs.specs.Runs.{Turn, reports}

-- 3 events, one for each collection that a path leads to, one for each of their links; and one more where the stream was opened
pub record FullCount (g : List Vertex) (opened : Bool) (n : ℕ) : Type 0 where
  pub reached : ℕ → Bool
  pub by_paths : TellsLed g reached
  pub is : n ≡ 3 + sum_where collection_count reached 1 g + sum_where link_count reached 1 g + cond opened 0 1

abbrev pub CountOf : List Vertex → Bool → ℕ → Type 0
CountOf [] opened n = Unit {0}
CountOf (x ∷ g) opened n = FullCount (x ∷ g) opened n

abbrev pub CountBy : Call → Bool → Answer → Type 0
CountBy opening opened a = Unit {0}
CountBy closing opened a = Unit {0}
CountBy (dumping h) opened (accepted n) = CountOf h.book.nodes opened n
CountBy (dumping h) opened (refused n why) = Unit {0}

-- an accepted dump of a document that is not empty reported so many events
abbrev pub Counts : Turn → Type 0
Counts u = CountBy u.call u.before.opened u.answer

-- A call that passed its own questions was refused exactly when the sizes of its events add up to more than the room before it;
-- an accepted one passed them, and its sink took just its events, in order.
pub record Fits (weight : Ev → ℕ) (u : Turn) : Type 0 where
  pub refused_full : (ds : List Due) → Passes u.call u.before → Wants u.call u.before ds
      → is_refused u.answer ≡ true → u.before.room < total weight ds
  pub full_refused : (ds : List Due) → Passes u.call u.before → Wants u.call u.before ds
      → u.before.room < total weight ds → is_refused u.answer ≡ true
  pub accepted_passed : is_refused u.answer ≡ false → Passes u.call u.before
  pub accepted_took : (ds : List Due) → Wants u.call u.before ds
      → is_refused u.answer ≡ false → u.after.taken ≡ u.before.taken ++ events ds

-- what is counted in a run: the reported events, added up, are the length of the sink's list
pub record Counted (turns : List Turn) (end : State) : Type 0 where
  pub all : reports turns ≡ length end.taken
  pub each : AllByRecursion Counts turns
