use Rattle.std.proofs.Common.{◌≡◌, drop}
use Rattle.model.specs.Events.{zero_free}
use Rattle.yaml.proofs.event.zero_free.Given as goal

-- what is left decides
abbrev pub invariant-loop-b : goal.invariant-loop-b
invariant-loop-b l = zero_free (drop l.b-index l.bytes) ≡ zero_free l.bytes
