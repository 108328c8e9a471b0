use Rattle.std.proofs.Common.{[], ◌∷◌, sym, ap, ◌∙◌}
use Rattle.std.proofs.lemmas.Result.{err_from_is_err_and}
use Rattle.runs.specs.Writer.{due_of}
use Rattle.dumper.specs.Handing.{once_due}
use Rattle.dumper.proofs.Handed.{hands_as, hands_left}
use Rattle.dumper.proofs.outlet.Outlet.hand_once.Goals as goal

pub returns-in_err-hand-clause-handed : goal.returns-in_err-hand-clause-handed
returns-in_err-hand-clause-handed g c =
    hands_left (err_from_is_err_and c.from_residual.result c.from_residual.ensures.1)
    (hands_as (ap (λ e. due_of 0 e ∷ []) c.plain.ensures ∙ ap (once_due c.args.kind) (sym c.if-not-done.true)) c.in_err-hand.ensures)
