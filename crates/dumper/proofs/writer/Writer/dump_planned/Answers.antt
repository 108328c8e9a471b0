use Rattle.std.proofs.Common.{◌≡◌, false, length, Err, sym, refl, ap, ◌∙◌, subst, arith}
use Rattle.std.proofs.lemmas.List.{nil_from_length}
use Rattle.std.proofs.lemmas.Result.{err_from_is_err_and}
use Rattle.document.specs.Books.{book_of}
use Rattle.runs.specs.Writer.{dumping, empty, accepted, Called}
use Rattle.runs.proofs.Answering.{empty_passes}
use Rattle.dumper.specs.Answers.{answer_of}
use Rattle.dumper.specs.States.{state_by, state_of}
use Rattle.dumper.specs.Calls.{handed}
use Rattle.dumper.proofs.Calling.{called_well, called_short, fails_anchors, passes_planned, wants_planned, planned_allowed}
use Rattle.dumper.proofs.Going.{went_of}
use Rattle.dumper.proofs.writer.Writer.dump_planned.Goals.{else-self-2-via-then-self-2+else-len-gt0, else-self-2-via-else-self-2, in-Ok+in_ok-write-in-Ok, in-Err-NoNodes+in_ok-write_nothing-in-Err-NoNodes}
use Rattle.dumper.proofs.writer.Writer.dump_planned.Goals as goal

pub invariant_of-planned-clause-allowed : goal.invariant_of-planned-clause-allowed
invariant_of-planned-clause-allowed g c =
    let h = handed (book_of c.args.d.now) (length c.args.counting.now) (length c.args.steps.now) in
    planned_allowed (state_of g.S.Sink.view c.args.self.now) h c.args.steps.now c.in-Ok.count c.make_plan.new.counting c.make_plan.new.steps c.in-Ok.ensures.plan c.sound.ensures

pub returns-in_err-write-in-Ok-clause-called : goal.returns-in_err-write-in-Ok-clause-called
returns-in_err-write-in-Ok-clause-called g c =
    let self = c.args.self.now in
    let s = state_of g.S.Sink.view self in
    let h = handed (book_of c.args.d.now) (length c.args.counting.now) (length c.args.steps.now) in
    let same = ap (λ k. state_by self.opened self.closed self.spoilt (g.S.Sink.view k)) c.count_anew.ensures.sink in
    let plan = c.in-Ok.ensures.plan in
    let still : self.closed ≡ false = elim c.else-self-2.branch [
      | else-self-2-via-then-self-2+else-len-gt0 w ↦ absurd (omega (arith, w.len.ensures, w.if-len-gt0.false, plan.enough.some))
      | else-self-2-via-else-self-2 w ↦ w.if-self-2.false
    ] in
    called_short g.S.Sink.weight (dumping h) _ same c.count_anew.ensures.none
    (passes_planned s h c.args.steps.now c.in-Ok.count c.make_plan.new.counting c.make_plan.new.steps plan c.if-self.false still refl)
    (wants_planned s h c.args.steps.now c.in-Ok.count c.make_plan.new.counting c.make_plan.new.steps plan)
    (err_from_is_err_and c.from_residual.result c.from_residual.ensures.1) c.in_err-write-in-Ok.ensures.wrote

pub returns-in_err-write_nothing-in-Err-NoNodes-clause-called : goal.returns-in_err-write_nothing-in-Err-NoNodes-clause-called
returns-in_err-write_nothing-in-Err-NoNodes-clause-called g c =
    let self = c.args.self.now in
    let s = state_of g.S.Sink.view self in
    let h = handed (book_of c.args.d.now) (length c.args.counting.now) (length c.args.steps.now) in
    let same = ap (λ k. state_by self.opened self.closed self.spoilt (g.S.Sink.view k)) c.count_anew.ensures.sink in
    let none = nil_from_length h.book.nodes (rw c.in-Err-NoNodes.field-0-is at c.in-Err-NoNodes.ensures.plan) in
    called_short g.S.Sink.weight (dumping h) _ same c.count_anew.ensures.none (empty_passes h s none c.if-self.false) (empty none refl)
    (err_from_is_err_and c.from_residual-in_err-write_nothing-in-Err-NoNodes.result c.from_residual-in_err-write_nothing-in-Err-NoNodes.ensures.1) c.in_err-write_nothing-in-Err-NoNodes.ensures.wrote

pub returns-in-Err-NoAnchor-clause-called : goal.returns-in-Err-NoAnchor-clause-called
returns-in-Err-NoAnchor-clause-called g c =
    let self = c.args.self.now in
    let s = state_of g.S.Sink.view self in
    let h = handed (book_of c.args.d.now) (length c.args.counting.now) (length c.args.steps.now) in
    let same = ap (λ k. state_by self.opened self.closed self.spoilt (g.S.Sink.view k)) c.count_anew.ensures.sink in
    let plan = rw c.in-Err-NoAnchor.field-0-is at c.in-Err-NoAnchor.ensures.plan in
    let still : self.closed ≡ false = elim c.else-self-2.branch [
      | else-self-2-via-then-self-2+else-len-gt0 w ↦ absurd (omega (arith, w.len.ensures, w.if-len-gt0.false, plan.enough.some))
      | else-self-2-via-else-self-2 w ↦ w.if-self-2.false
    ] in
    subst (λ f. Called g.S.Sink.weight (dumping h) s (answer_of (Err f)) (state_by self.opened self.closed self.spoilt (g.S.Sink.view c.count_anew.new.self.sink))) (sym c.into-in-Err-NoAnchor.ensures)
    (record { failed = fails_anchors s h c.in-Err-NoAnchor.node c.if-self.false still plan; none_taken = refl; same = same })

pub returns-clause-called : goal.returns-clause-called
returns-clause-called g c =
    let self = c.args.self.now in
    let s = state_of g.S.Sink.view self in
    let h = handed (book_of c.args.d.now) (length c.args.counting.now) (length c.args.steps.now) in
    let same = ap (λ k. state_by self.opened self.closed self.spoilt (g.S.Sink.view k)) c.count_anew.ensures.sink in
    elim c.match-make_plan.branch [
      | in-Ok+in_ok-write-in-Ok w ↦
          let plan = w.in-Ok.ensures.plan in
          let still : self.closed ≡ false = elim c.else-self-2.branch [
            | else-self-2-via-then-self-2+else-len-gt0 w ↦ absurd (omega (arith, w.len.ensures, w.if-len-gt0.false, plan.enough.some))
            | else-self-2-via-else-self-2 w ↦ w.if-self-2.false
          ] in
          subst (λ v. Called g.S.Sink.weight (dumping h) s (accepted c.events.result) (state_of g.S.Sink.view v)) (sym w.self-is)
          (called_well g.S.Sink.weight (dumping h) _ same c.count_anew.ensures.none
          (passes_planned s h c.args.steps.now w.in-Ok.count c.make_plan.new.counting c.make_plan.new.steps plan c.if-self.false still refl)
          (wants_planned s h c.args.steps.now w.in-Ok.count c.make_plan.new.counting c.make_plan.new.steps plan)
          (c.events.ensures ∙ ap (λ v. v.outlet.events) w.self-is) (went_of w.in_ok-write-in-Ok.ensures.wrote))
      | in-Err-NoNodes+in_ok-write_nothing-in-Err-NoNodes w ↦
          let none = nil_from_length h.book.nodes (rw w.in-Err-NoNodes.field-0-is at w.in-Err-NoNodes.ensures.plan) in
          subst (λ v. Called g.S.Sink.weight (dumping h) s (accepted c.events.result) (state_of g.S.Sink.view v)) (sym w.self-is)
          (called_well g.S.Sink.weight (dumping h) _ same c.count_anew.ensures.none (empty_passes h s none c.if-self.false) (empty none refl)
          (c.events.ensures ∙ ap (λ v. v.outlet.events) w.self-is) (went_of w.in_ok-write_nothing-in-Err-NoNodes.ensures.wrote))
    ]
