use Rattle.std.proofs.Common.{eqb, sym, ◌∙◌}
use Rattle.std.proofs.lemmas.Result.{err_from_is_err_and}
use Rattle.convert.specs.Wholes.{marked_of}
use Rattle.convert.proofs.Allowed.{allowed_short, came_allowed}
use Rattle.loader.specs.Loads.{start_marked}
use Rattle.loader.proofs.Running.{whole_given, no_whole_given, document_end_told, going_none, going_refused, going_done, going_on}
use Rattle.loader.proofs.stream.load_nodes.Goals as goal

pub returns-in_err-whole : goal.returns-in_err-whole
returns-in_err-whole g c =
    let f = g.S.Source.flow c.loop-whole.source in
    let f' = g.S.Source.flow c.next_of.new.source in
    let p = err_from_is_err_and c.from_residual.result c.from_residual.ensures.1 in
    rw (p.1, p.2)
    (going_none (start_marked c.args.begin.now) (g.S.Source.flow c.args.source.now) c.args.tables.now f c.loop-whole.tables c.loop-whole.invariant
    f' _ (no_whole_given f c.next_of.result c.in_err-whole.field-0.0 f' c.next_of.ensures c.in_err-whole.ensures))

pub invariant_of-placed : goal.invariant_of-placed
invariant_of-placed g c =
    let f = g.S.Source.flow c.loop-whole.source in
    let f' = g.S.Source.flow c.next_of.new.source in
    let came = whole_given f c.next_of.result c.in_ok-whole.whole f' c.next_of.ensures c.in_ok-whole.ensures in
    let short = allowed_short (marked_of c.in_ok-whole.whole).event (came_allowed f (marked_of c.in_ok-whole.whole) f' (g.S.Source.sound c.loop-whole.source) came) in
    record { short_anchor = short.anchor; short_tag = short.tag; short_value = short.value }

pub returns-in_err-take : goal.returns-in_err-take
returns-in_err-take g c =
    let f = g.S.Source.flow c.loop-whole.source in
    let f' = g.S.Source.flow c.next_of.new.source in
    let came = whole_given f c.next_of.result c.in_ok-whole.whole f' c.next_of.ensures c.in_ok-whole.ensures in
    let p = err_from_is_err_and c.from_residual-in_err-take.result c.from_residual-in_err-take.ensures.1 in
    rw (p.1, p.2)
    (going_refused (start_marked c.args.begin.now) (g.S.Source.flow c.args.source.now) c.args.tables.now f c.loop-whole.tables c.loop-whole.invariant
    f' (marked_of c.in_ok-whole.whole) came _ c.take.new.self c.in_err-take.ensures)

pub returns-then-eq : goal.returns-then-eq
returns-then-eq g c =
    let f = g.S.Source.flow c.loop-whole.source in
    let f' = g.S.Source.flow c.next_of.new.source in
    let came = whole_given f c.next_of.result c.in_ok-whole.whole f' c.next_of.ensures c.in_ok-whole.ensures in
    let begin = c.args.begin.now in
    going_done (start_marked begin) (g.S.Source.flow c.args.source.now) c.args.tables.now f c.loop-whole.tables c.loop-whole.invariant
    f' (marked_of c.in_ok-whole.whole) came c.take.new.self c.in_ok-take.ensures (sym (c.if-eq.ensures ∙ document_end_told c.in_ok-whole.whole.event.kind))
    _ (λ i. record {
      nodes = c.node_count.ensures i;
      links = c.link_count.ensures i;
      text = c.text_count.ensures i;
      anchors = c.anchor_count.ensures i;
      start_implicit = eqb begin.flags 1;
      end_implicit = eqb c.in_ok-whole.whole.event.flags 1;
      start = begin.start;
      end = c.in_ok-whole.whole.end;
    })

pub loop-whole-preserved : goal.loop-whole-preserved
loop-whole-preserved g c =
    let f = g.S.Source.flow c.loop-whole.source in
    let f' = g.S.Source.flow c.next_of.new.source in
    let came = whole_given f c.next_of.result c.in_ok-whole.whole f' c.next_of.ensures c.in_ok-whole.ensures in
    going_on (start_marked c.args.begin.now) (g.S.Source.flow c.args.source.now) c.args.tables.now f c.loop-whole.tables c.loop-whole.invariant
    f' (marked_of c.in_ok-whole.whole) came c.take.new.self c.in_ok-take.ensures (sym (c.if-eq.ensures ∙ document_end_told c.in_ok-whole.whole.event.kind))
