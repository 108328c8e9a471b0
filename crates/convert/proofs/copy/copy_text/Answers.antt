use Rattle.std.proofs.Common.{◌≡◌, ◌<◌, ◌≤◌, length, take, drop, sym, ap, ◌∙◌, arith, length-take}
use Rattle.std.proofs.lemmas.List.{take_all, take-append-le}
use Rattle.convert.specs.Copies.{latest_text}
use Rattle.convert.proofs.Bytes.{byte_there, byte_is, copied_more}
use Rattle.convert.proofs.copy.copy_text.Goals as goal

pub loop-i-preserved : goal.loop-i-preserved
loop-i-preserved g c =
    let f = g.S.Source.flow c.args.source.now in
    let text = latest_text f c.args.text in
    let there : c.loop-i.i < length text = omega (arith, length-take c.args.n c.args.out.now) in
    copied_more c.loop-i.b-items text c.loop-i.i c.unwrap.result (omega arith) there (byte_is f c.args.text c.loop-i.i c.unwrap.result there (sym c.unwrap.ensures ∙ c.byte.ensures)) c.loop-i.invariant

pub unwrap-requires : goal.unwrap-requires
unwrap-requires g c =
    let f = g.S.Source.flow c.args.source.now in
    let there : c.loop-i.i < length (latest_text f c.args.text) = omega (arith, length-take c.args.n c.args.out.now) in
    rw (c.byte.ensures, byte_there f c.args.text c.loop-i.i there)

pub returns : goal.returns
returns g c =
    let text = latest_text (g.S.Source.flow c.args.source.now) c.args.text in
    let long = length-take c.args.n c.args.out.now in
    let end : c.args.n ≡ c.loop-i.i = omega arith in
    let all : length text ≤ c.loop-i.i = omega arith in
    take-append-le c.args.n c.loop-i.b-items (drop c.args.n c.args.out.now) (omega arith)
    ∙ ap (λ n. take n c.loop-i.b-items) end ∙ c.loop-i.invariant ∙ take_all c.loop-i.i text all
