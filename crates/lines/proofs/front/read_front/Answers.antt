use Rattle.std.proofs.Common.{◌≡◌, sym, ap, ◌∙◌, arith}
use Rattle.std.proofs.lemmas.Bool.{eqb-true, eqb-false}
use Rattle.std.proofs.lemmas.Result.{err_from_is_err_and}
use Rattle.model.specs.Reading.{event}
use Rattle.yaml.specs.Shapes.{ev_of}
use Rattle.lines.specs.Line.{is_line_of, line_front}
use Rattle.lines.specs.Telling.{ev_told}
use Rattle.lines.proofs.Fronting.{no_bytes, no_line, a_line, line_inside}
use Rattle.lines.proofs.front.read_front.Goals as goal

pub returns-then-is_empty-clause-front : goal.returns-then-is_empty-clause-front
returns-then-is_empty-clause-front c = no_bytes c.args.rest.now (eqb-true _ _ (sym c.if-is_empty.ensures))

pub returns-in_err-read-clause-front : goal.returns-in_err-read-clause-front
returns-in_err-read-clause-front c =
    let p = err_from_is_err_and c.from_residual.result c.from_residual.ensures.1 in
    let e = c.in_err-read.ensures in
    rw (p.1, p.2, e.0) (no_line c.args.rest.now (omega (arith, eqb-false _ _ (sym c.if-is_empty.ensures))) e.1)

pub returns-in-Some : goal.returns-in-Some
returns-in-Some c =
    let bs = c.args.rest.now in
    let n = c.in-Some.size in
    let e = ev_told c.read.new.self in
    let g = c.event.ensures ∙ c.in_ok-read.ensures in
    let at : event e n ≡ line_front bs = ap (λ t. event t n) (sym c.event.ensures) ∙ a_line bs (ev_of c.event.result) n (omega (arith, eqb-false _ _ (sym c.if-is_empty.ensures))) g c.in-Some.ensures in
    record { front = at; inside = line_inside e n bs at }

pub returns-in-None-clause-front : goal.returns-in-None-clause-front
returns-in-None-clause-front c =
    let bs = c.args.rest.now in
    no_line bs (omega (arith, eqb-false _ _ (sym c.if-is_empty.ensures))) (ap (λ e. is_line_of e bs) (sym (c.event.ensures ∙ c.in_ok-read.ensures)) ∙ c.in-None.ensures)
