use Rattle.std.proofs.Common.{◌≡◌, ◌+◌, length, drop}
use Rattle.yaml.specs.Puts.{puts}
use Rattle.packed.proofs.writer.store.Given as goal

-- putting what is left gives what putting all gives
abbrev pub invariant-loop-i : goal.invariant-loop-i
invariant-loop-i l =
    (puts l.out (l.at + l.i) (drop l.i l.bytes) ≡ puts l.initial.out l.at l.bytes)
    × (length l.out ≡ length l.initial.out)
