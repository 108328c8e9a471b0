use Rattle.std.proofs.Common.{◌≡◌, take}
use Rattle.convert.specs.Copies.{latest_text}
use Rattle.convert.proofs.copy.copy_text.Given as goal

abbrev pub invariant-loop-i : goal.invariant-loop-i
invariant-loop-i g l = take l.i l.b-items ≡ take l.i (latest_text (g.S.Source.flow l.source) l.text)
