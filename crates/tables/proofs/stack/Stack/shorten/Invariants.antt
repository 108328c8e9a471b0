use Rattle.std.proofs.Common.{◌≡◌}
use Rattle.tables.proofs.Growing.{Emptied}
use Rattle.tables.proofs.stack.Stack.shorten.Given as goal

-- the places before this one are empty
abbrev pub invariant-loop-place : goal.invariant-loop-place
invariant-loop-place g l = Emptied g.T.Empty.empty l.initial.self.items.now l.self.items.now l.n l.place × (l.self.items.ghost_name ≡ l.initial.self.items.ghost_name)
