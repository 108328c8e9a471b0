-- The answers of the calls, as the law over whole runs has them.
use Rattle.std.specs.Prelude.{◌≡◌, ℕ, Ok, Err, Result}
use Rattle.runs.specs.Writer.{own, sink, Answer, accepted, refused}
use Rattle.runs.specs.Writer as runs
use Rattle.dumper.specs.declared.answer.Why.{Why}
use Rattle.dumper.specs.declared.answer.Why.TheVariants.{AlreadyOpened, NotOpened, Spoilt, Closed, TooFewCounts, TooDeep, TooFewSteps, NoAnchor, Sink}
use Rattle.dumper.specs.declared.answer.Refused.{Refused}

abbrev pub why_of : Why → runs.Why
why_of AlreadyOpened = own 51
why_of NotOpened = own 52
why_of Spoilt = own 53
why_of Closed = own 54
why_of TooFewCounts = own 55
why_of TooDeep = own 56
why_of TooFewSteps = own 57
why_of (NoAnchor v) = own 58
why_of (Sink v r) = sink v r

abbrev pub answer_of : Result ℕ Refused → Answer
answer_of (Ok n) = accepted n
answer_of (Err f) = refused f.events (why_of f.why)

-- a refusal by a question that is asked before the sink is: no event was taken
abbrev pub Unasked : Why → Refused → Type 0
Unasked why r = r ≡ record { events = 0; why = why }
