use Rattle.std.proofs.Common.{◌≡◌, ◌≤◌, ℕ, List, ◌++◌, length, take, drop, ap, ◌∙◌, arith}
use Rattle.std.proofs.lemmas.List.{append_assoc}
use Rattle.yaml.specs.Puts.{drop_puts}
use Rattle.yaml.specs.Shapes.{ev_of}
use Rattle.yaml.proofs.Takes.{taken_more}
use Rattle.packed.specs.declared.writer.PackedWriter.{PackedWriter}
use Rattle.packed.specs.Packed.{head_of, packed_of}
use Rattle.packed.specs.Writes.{held, Put}
use Rattle.packed.specs.Lawful.{packed_format}
use Rattle.packed.proofs.writer.PackedWriter.put_event.Goals as goal

-- what stands behind the bytes that were put is as it was
behind : (n : ℕ) (before after : PackedWriter) (at end : ℕ) (bytes : List ℕ) → Put before at bytes end after → end ≤ n → drop n after.out.now ≡ drop n before.out.now
behind n before after at end bytes p l = ap (drop n) p.slice ∙ drop_puts n before.out.now at bytes (omega (arith, p.place))

pub returns : goal.returns
returns c =
    let w = c.args.self.now in
    let e = ev_of c.args.e.now in
    let end = c.put.result in
    let parts : take end c.put.new.self.out.now ≡ (((held w ++ head_of e) ++ e.anchor) ++ e.tag) ++ e.value = cc in
    let stored : take end c.put.new.self.out.now ≡ held w ++ packed_of e = parts ∙ simp append_assoc in
    let more = taken_more packed_format (held w) (take end c.put.new.self.out.now) e w.whole c.requires.allowed stored in
    let nine : length c.head_bytes-head.result ≡ 9 = ap length c.head_bytes-head.ensures in
    record {
      place = omega arith;
      bytes = stored;
      past =
          behind end _ _ _ _ _ c.put.ensures (omega arith)
          ∙ (behind end _ _ _ _ _ c.put-value.ensures (omega arith) ∙ (behind end _ _ _ _ _ c.put-tag.ensures (omega arith) ∙ behind end _ _ _ _ _ c.put-anchor.ensures (omega arith)));
      appended = more.0;
      whole = more.1;
      used = cc;
      length_same = cc;
      same = cc;
    }
