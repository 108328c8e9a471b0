use Rattle.std.proofs.Common.{sym, ap, ◌∙◌}
use Rattle.std.proofs.lemmas.Bool.{cond-false}
use Rattle.std.proofs.lemmas.Bool.Decides.{Decides-eqb}
use Rattle.std.proofs.lemmas.Slice.Eq.{slice_eq-Decides}
use Rattle.serial.specs.Serialize.{same_bytes}
use Rattle.dumper.proofs.Handed.{decided}
use Rattle.dumper.proofs.event.flags_of.Goals as goal

pub returns-else-eq : goal.returns-else-eq
returns-else-eq c =
    let same = decided c.args.tag.now c.default_tag.result.now c.eq.result (slice_eq-Decides Decides-eqb _ _ _ c.eq.ensures) in
    sym (cond-false _ _ _ (sym (ap (same_bytes c.args.tag.now) c.default_tag.ensures) ∙ sym same ∙ c.if-eq.false))
