use Rattle.std.proofs.Common.{sym, ◌∙◌}
use Rattle.lines.proofs.Escaping.{escaped_byte, same_byte}
use Rattle.lines.proofs.byte.escape.Goals as goal

pub returns-then-escapes : goal.returns-then-escapes
returns-then-escapes c = escaped_byte c.args.byte (sym c.if-escapes.ensures) ∙ sym c.escaped.ensures

pub returns-else-escapes : goal.returns-else-escapes
returns-else-escapes c = same_byte c.args.byte (sym c.if-escapes.ensures)
