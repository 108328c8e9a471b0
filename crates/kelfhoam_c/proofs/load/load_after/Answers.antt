use Rattle.std.proofs.Common.{◌≡◌, suc, ◌+◌, ◌-◌, Err, sym, ap, refl, ◌∙◌, arith}
use Rattle.std.proofs.lemmas.Result.{err_from_is_err_and}
use Rattle.composer.specs.Holding.{Base, lengths_of}
use Rattle.kelfhoam_c.specs.Loading.{after_documents}
use Rattle.kelfhoam_c.proofs.Passing.{passed_over, stands, ended, none_left}
use Rattle.kelfhoam_c.proofs.load.load_after.Goals as goal

pub returns-in_err-loaded : goal.returns-in_err-loaded
returns-in_err-loaded g c =
    let p = err_from_is_err_and c.from_residual.result c.from_residual.ensures.1 in
    rw (p.1, p.2)
    (stands (lengths_of c.loop-passed.tables) c.loop-passed.loader.phase (g.S.Source.flow c.loop-passed.loader.source) (c.args.skip - c.loop-passed.passed) (Err c.in_err-loaded.field-0.0) (λ o next. refl) (sym c.in_err-loaded.was ∙ c.load.ensures.answered)
    ∙ ap (λ o. o.answer) c.loop-passed.invariant.0)

pub returns-then-is_none : goal.returns-then-is_none
returns-then-is_none g c =
    ended (lengths_of c.loop-passed.tables) c.loop-passed.loader.phase (g.S.Source.flow c.loop-passed.loader.source) (c.args.skip - c.loop-passed.passed) c.in_ok-loaded.loaded c.if-is_none.ensures (sym c.in_ok-loaded.was ∙ c.load.ensures.answered)
    ∙ ap (λ o. o.answer) c.loop-passed.invariant.0

pub loop-passed-preserved : goal.loop-passed-preserved
loop-passed-preserved g c =
    let l = lengths_of c.loop-passed.tables in
    let phase = c.loop-passed.loader.phase in
    let f = g.S.Source.flow c.loop-passed.loader.source in
    let n = c.args.skip - (c.loop-passed.passed + 1) in
    let one : suc n ≡ c.args.skip - c.loop-passed.passed = omega arith in
    let load = c.load.ensures in
    let long = ap (λ (b : Base). b.lengths) load.base in
    let same = ap (λ k. after_documents n k c.load.new.self.phase (g.S.Source.flow c.load.new.self.source)) long in
    let over = passed_over l phase f n c.in_ok-loaded.loaded _ _ c.if-is_none.ensures (sym c.in_ok-loaded.was ∙ load.answered) load.next_phase load.left in
    let on = ap (λ m. after_documents m l phase f) one in
    (same ∙ over ∙ on ∙ c.loop-passed.invariant.0, long ∙ c.loop-passed.invariant.1)

pub returns : goal.returns
returns g c =
    c.load-2.ensures.answered
    ∙ none_left (lengths_of c.loop-passed.tables) c.loop-passed.loader.phase (g.S.Source.flow c.loop-passed.loader.source) c.args.skip c.loop-passed.passed c.loop-passed-test.false
    ∙ ap (λ o. o.answer) c.loop-passed.invariant.0
