use Rattle.std.proofs.Common.{[], ◌++◌, length, sym, refl, ap, subst, ◌∙◌, arith}
use Rattle.std.proofs.lemmas.List.{append_assoc, length-append, take_rest}
use Rattle.lines.specs.Line.{escape}
use Rattle.lines.proofs.Escaping.{first_on, none_on}
use Rattle.lines.proofs.pen.write_runs.Goals as goal

pub text-init : goal.text-init
text-init g c = ([], record { wrote = g.P.Pen.nothing _; front = refl; room = omega arith })

pub write_plain-requires : goal.write_plain-requires
write_plain-requires g c =
    let cut = first_on _ _ _ _ _ c.in-Some.at (sym c.in-Some.ensures) c.split_at.ensures.front c.split_at.ensures.back refl refl in
    let i = c.text.invariant.1 in
    omega (arith, cut.lengths, i.room, ap length i.front, length-append c.text.invariant.0 (escape c.text.rest.now))

pub put-requires : goal.put-requires
put-requires g c =
    let cut = first_on _ _ _ _ _ c.in-Some.at (sym c.in-Some.ensures) c.split_at.ensures.front c.split_at.ensures.back c.escaped.ensures refl in
    let i = c.text.invariant.1 in
    omega (arith, cut.lengths, i.room, ap length i.front, length-append c.text.invariant.0 (escape c.text.rest.now))

pub text-preserved : goal.text-preserved
text-preserved g c =
    let back = c.split_at.result.1.now in
    let done = c.text.invariant.0 in
    let i = c.text.invariant.1 in
    let cut = first_on _ _ _ _ _ c.in-Some.at (sym c.in-Some.ensures) c.split_at.ensures.front c.split_at.ensures.back c.escaped.ensures (take_rest back 1) in
    let on = g.P.Pen.onward in
    let more = c.split_at.result.0.now ++ c.escaped.result in (
      done ++ more,
      record {
        wrote = on _ _ _ _ _ i.wrote (on _ _ _ _ _ c.write_plain.ensures.wrote c.put.ensures.wrote);
        front = i.front ∙ (ap (λ l. done ++ l) cut.whole ∙ sym (append_assoc done more _));
        room = omega (arith, i.room, length-append done more, length-append c.split_at.result.0.now c.escaped.result);
      },
    )

pub write_plain-requires-2 : goal.write_plain-requires-2
write_plain-requires-2 g c =
    let i = c.text.invariant.1 in
    omega (arith, i.room, ap length i.front, length-append c.text.invariant.0 (escape c.text.rest.now), ap length (none_on c.text.rest.now (sym c.in_default.ensures)))

pub returns-clause-wrote : goal.returns-clause-wrote
returns-clause-wrote g c =
    let i = c.text.invariant.1 in
    subst (λ l. g.P.Pen.wrote c.args.pen.now l c.write_plain-2.new.pen) (sym (i.front ∙ ap (λ l. c.text.invariant.0 ++ l) (none_on c.text.rest.now (sym c.in_default.ensures)))) (g.P.Pen.onward _ _ _ _ _ i.wrote c.write_plain-2.ensures.wrote)

pub returns-clause-room : goal.returns-clause-room
returns-clause-room g c =
    let i = c.text.invariant.1 in
    omega (arith, i.room, ap length i.front, length-append c.text.invariant.0 (escape c.text.rest.now), ap length (none_on c.text.rest.now (sym c.in_default.ensures)))
