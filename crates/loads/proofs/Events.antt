-- What an allowed event keeps within.
use Rattle.std.proofs.Common.{◌≡◌, ◌≤◌, true, ◌&&◌, leb, [], length, refl, ap, ◌∙◌, arith}
use Rattle.std.proofs.lemmas.List.{nil_from_length}
use Rattle.std.proofs.lemmas.Bool.{and_parts, leb-true}
use Rattle.model.specs.declared.NodeKind.{NodeKind}
use Rattle.model.specs.declared.NodeKind.TheVariants.{Scalar, Sequence, Mapping}
use Rattle.model.specs.Events.{Ev, Row, table, within, zero_free, allowed}
use Rattle.serial.specs.Walk.{is_collection}
use Rattle.serial.specs.Serialize.{start_kind}

pub record Kept (r : Row) (e : Ev) : Type 0 where
  pub style : e.style ≤ r.most_style
  pub anchor : length e.anchor ≤ r.most_anchor
  pub tag : length e.tag ≤ r.most_tag
  pub value : length e.value ≤ r.most_value
  pub anchor_free : zero_free e.anchor ≡ true
  pub tag_free : zero_free e.tag ≡ true

pub kept_within : (e : Ev) → allowed e ≡ true → Kept (table e.kind) e
kept_within e h =
    let r : Row = table e.kind in
    let a = and_parts (within r e.style e.flags (length e.anchor) (length e.tag) (length e.value)) (zero_free e.anchor && zero_free e.tag) h in
    let z = and_parts (zero_free e.anchor) (zero_free e.tag) a.1 in
    let p = and_parts (leb e.style r.most_style) _ a.0 in
    let q = and_parts (leb e.flags r.most_flags) _ p.1 in
    let x = and_parts (leb r.least_anchor (length e.anchor)) _ q.1 in
    let y = and_parts (leb (length e.anchor) r.most_anchor) _ x.1 in
    let w = and_parts (leb (length e.tag) r.most_tag) (leb (length e.value) r.most_value) y.1 in
    record { style = leb-true _ _ p.0; anchor = leb-true _ _ y.0; tag = leb-true _ _ w.0; value = leb-true _ _ w.1; anchor_free = z.0; tag_free = z.1 }

most_of : (k : NodeKind) → is_collection k ≡ true → (table (start_kind k)).most_value ≡ 0
most_of Scalar c = cc
most_of Sequence c = refl
most_of Mapping c = refl

pub no_value : (e : Ev) (k : NodeKind) → allowed e ≡ true → e.kind ≡ start_kind k → is_collection k ≡ true → e.value ≡ []
no_value e k h a c = nil_from_length e.value (omega (arith, (kept_within e h).value, ap (λ q. (table q).most_value) a ∙ most_of k c))
