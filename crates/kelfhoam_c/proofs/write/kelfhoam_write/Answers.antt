use Rattle.std.proofs.Common.{◌-◌, not, eqb, length, ap, ◌∙◌, subst}
use Rattle.packed.specs.Packed.{size_of}
use Rattle.packed.specs.Writes.{view_of}
use Rattle.document.specs.Check.{handed}
use Rattle.dumper.specs.States.{state_of}
use Rattle.kelfhoam_c.specs.Writing.{lent, MadeCalls}
use Rattle.kelfhoam_c.proofs.Calling.{fresh_with_lem}
use Rattle.kelfhoam_c.proofs.write.kelfhoam_write.Goals as goal

pub returns : goal.returns
returns c =
    let made = c.new-writer.ensures.made in
    let end = state_of (λ s. view_of s.now) c.call_all.new.writer in
    let d = lent (handed c.args.nodes.now c.args.links.now c.args.text.now c.args.n) (not (eqb c.args.start_implicit 0)) (not (eqb c.args.end_implicit 0)) (length c.args.counting.now) (length c.args.steps.now) in
    let fresh = fresh_with_lem (state_of (λ s. view_of s.now) c.new-writer.result) (length c.args.out.now) made.not_opened made.not_closed made.not_spoilt (made.taken ∙ c.new-packed.ensures.taken) (made.room ∙ c.new-packed.ensures.room) in
    record {
      end = end;
      calls_made = subst (λ s. MadeCalls size_of d c.args.calls.now s end c.args.told.now c.call_all.new.told) fresh c.call_all.ensures;
      bytes_told = c.saturating_sub.ensures ∙ ap (λ n. length c.args.out.now - n) c.space.ensures;
    }
