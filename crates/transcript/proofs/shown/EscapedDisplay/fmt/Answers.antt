use Rattle.std.proofs.Common.{rules, ◌<◌, ◌++◌, [], ◌∷◌, length, get_or, take, sym, refl, ap, ◌∙◌, arith}
use Rattle.std.proofs.Output.{has_written_append, has_written_of_eq, has_written_to_eq}
use Rattle.std.proofs.lemmas.List.{take_more, take_all}
use Rattle.lines.proofs.Escaping.{escape_more}
use Rattle.transcript.proofs.Ascii.{shown_char}
use Rattle.transcript.proofs.shown.EscapedDisplay.fmt.Goals.{in-None+in_ok-write_char-in-None, in-Some+else-loop-b-2-test}
use Rattle.transcript.proofs.shown.EscapedDisplay.fmt.Goals as goal

pub loop-b-2-preserved : goal.loop-b-2-preserved
loop-b-2-preserved g c = λ plain.
    let text = c.args.self.now.0.now in
    let i = c.loop-b.b-index in
    let es = c.in-Some.escaped in
    let k = c.loop-b-2.b-index in
    let so_far = c.loop-b-2.invariant plain in
    let fits : get_or text i 0 < 256 = search rules in
    let inside : k < length es = search rules in
    let same = shown_char (get_or text i 0) es k c.from-in-loop-b-2.result fits c.in-Some.ensures c.from-in-loop-b-2.ensures in
    has_written_of_eq _ _ _ _ _ (ap (λ xs. take k es ++ xs) same ∙ sym (take_more es k 0 inside))
    (has_written_append _ _ _ _ _ _ so_far (c.in_ok-write_char-in-Some.ensures.writes so_far.plain refl))

pub loop-b-preserved : goal.loop-b-preserved
loop-b-preserved g c = λ plain.
    let text = c.args.self.now.0.now in
    let i = c.loop-b.b-index in
    let so_far = c.loop-b.invariant plain in
    let fits : get_or text i 0 < 256 = search rules in
    has_written_of_eq _ _ _ _ _ (sym (escape_more text i c.loop-b-test.true))
    (has_written_append _ _ _ _ _ _ so_far (elim c.match-escape.branch [
      | in-None+in_ok-write_char-in-None w ↦
          let same = shown_char (get_or text i 0) (get_or text i 0 ∷ []) 0 w.from.result fits w.in-None.ensures w.from.ensures in
          has_written_to_eq _ _ _ _ _ w.f-is (has_written_of_eq _ _ _ _ _ (same ∙ sym w.in-None.ensures) (w.in_ok-write_char-in-None.ensures.writes so_far.plain refl))
      | in-Some+else-loop-b-2-test w ↦
          let es = w.in-Some.escaped in
          let all = take_all w.loop-b-2.b-index es (omega (arith, w.loop-b-2-test.false)) in
          has_written_to_eq _ _ _ _ _ w.f-is (has_written_of_eq _ _ _ _ _ (all ∙ sym w.in-Some.ensures) (w.loop-b-2.invariant so_far.plain))
    ]))
