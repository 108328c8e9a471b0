use Rattle.std.proofs.Common.{take}
use Rattle.serial.specs.Numbering.{anchor_of}
use Rattle.document.specs.Books.{book_of}
use Rattle.runs.specs.Writer.{walk_dues}
use Rattle.dumper.specs.Handing.{AllIn}
use Rattle.dumper.specs.Steps.{tokens_of}
use Rattle.dumper.proofs.outlet.Outlet.dump_steps.Given as goal

-- the events of the steps so far were taken
abbrev pub invariant-loop-step : goal.invariant-loop-step
invariant-loop-step g l =
    AllIn g.S.Sink.weight (g.S.Sink.view l.initial.self.sink) l.initial.self.events
    (walk_dues (anchor_of (book_of l.planned.d.now).nodes) (book_of l.planned.d.now).nodes (tokens_of (take l.step-index l.planned.steps.now)))
    (g.S.Sink.view l.self.sink) l.self.events
