use Rattle.std.proofs.Common.{arith}
use Rattle.convert.proofs.Going.{gave_one}
use Rattle.convert.proofs.Together.{told_by, together}
use Rattle.convert.proofs.texts.Texts.next_of.Goals as goal

pub copy_text-requires : goal.copy_text-requires
copy_text-requires g c =
    let f = g.S.Source.flow c.args.source.now in
    let f' = g.S.Source.flow c.next_event.new.self in
    let one = gave_one f c.in_ok-head.field-0 c.in-Some.head f' c.in_ok-head.ensures c.in-Some.is in
    let told = told_by f f' one.0 one.1 (g.S.Source.sound c.args.source.now) c.in-Some.head one.2 in
    record { n = told.anchor; fits = omega (arith, told.few_anchor) }

pub copy_text-requires-2 : goal.copy_text-requires-2
copy_text-requires-2 g c =
    let f = g.S.Source.flow c.args.source.now in
    let f' = g.S.Source.flow c.next_event.new.self in
    let one = gave_one f c.in_ok-head.field-0 c.in-Some.head f' c.in_ok-head.ensures c.in-Some.is in
    let told = told_by f f' one.0 one.1 (g.S.Source.sound c.args.source.now) c.in-Some.head one.2 in
    record { n = told.tag; fits = omega (arith, told.few_tag) }

pub copy_text-requires-3 : goal.copy_text-requires-3
copy_text-requires-3 g c =
    let f = g.S.Source.flow c.args.source.now in
    let f' = g.S.Source.flow c.next_event.new.self in
    let one = gave_one f c.in_ok-head.field-0 c.in-Some.head f' c.in_ok-head.ensures c.in-Some.is in
    let told = told_by f f' one.0 one.1 (g.S.Source.sound c.args.source.now) c.in-Some.head one.2 in
    record { n = told.value; fits = omega (arith, told.few_value) }

pub returns : goal.returns
returns g c =
    let f = g.S.Source.flow c.args.source.now in
    let f' = g.S.Source.flow c.next_event.new.self in
    let one = gave_one f c.in_ok-head.field-0 c.in-Some.head f' c.in_ok-head.ensures c.in-Some.is in
    together f f' one.0 one.1 c.in-Some.head c.copy_text.new.out c.copy_text-2.new.out c.copy_text-3.new.out one.2 c.copy_text.ensures c.copy_text-2.ensures c.copy_text-3.ensures
