-- The law over whole runs of a writer.
use Rattle.std.specs.Prelude.{ℕ, List}
use Rattle.std.specs.List.{AllByRecursion}
use Rattle.model.specs.Events.{Ev}
use Rattle.runs.specs.Writer.{State}
use Rattle.runs.specs.Runs.{Turn, Fresh, Run, written}
use Rattle.runs.specs.Counts.{Counted, Fits}
use Rattle.runs.specs.ReadBack.{ReadsBack}

-- After a run: the reported events are counted right, each call is refused for lack of space exactly when there is too little,
-- and what the sink took reads back as the documents of the accepted dumps that are not empty, in order.
pub record Lawful (weight : Ev → ℕ) (turns : List Turn) (end : State) : Type 0 where
  pub counted : Counted turns end
  pub fits : AllByRecursion (Fits weight) turns
  pub reads_back : ReadsBack end.taken (written turns)

-- so after every run from there
abbrev pub Law : (Ev → ℕ) → State → Type 0
Law weight start = (turns : List Turn) (end : State) → Run weight start turns end → Lawful weight turns end

-- the law
abbrev pub LawOfRuns : Type 0
LawOfRuns = (weight : Ev → ℕ) (start : State) → Fresh start → Law weight start
