-- What an allowed event's texts are like, and that a source's events are allowed.
use Rattle.std.proofs.Common.{◌≡◌, ◌≤◌, true, ◌&&◌, leb, ◌∷◌, map, length, sym, ap, ◌∙◌, arith}
use Rattle.std.proofs.lemmas.Bool.{and_parts, leb-true}
use Rattle.model.specs.declared.EventKind.{EventKind}
use Rattle.model.specs.declared.EventKind.TheVariants.{StreamStart}
use Rattle.model.specs.Events.{Ev, Row, table, within, zero_free, allowed, all_allowed}
use Rattle.model.specs.Reading.{Marked, bare}
use Rattle.yaml.specs.Flow.{Flow, Sound, Came}

-- the texts are within the row of the event's kind
pub record FitsRow (r : Row) (e : Ev) : Type 0 where
  pub anchor : length e.anchor ≤ r.most_anchor
  pub tag : length e.tag ≤ r.most_tag
  pub value : length e.value ≤ r.most_value

-- test by test, in the order in which they are asked: each is the first part of what is left of them
pub fits_row : (e : Ev) → allowed e ≡ true → FitsRow (table e.kind) e
fits_row e a =
    let r = table e.kind in
    let n = length e.anchor in
    let t = length e.tag in
    let v = length e.value in
    let whole = (and_parts (within r e.style e.flags n t v) (zero_free e.anchor && zero_free e.tag) a).0 in
    let p₁ = (and_parts (leb e.style r.most_style) (leb e.flags r.most_flags && (leb r.least_anchor n && (leb n r.most_anchor && (leb t r.most_tag && leb v r.most_value)))) whole).1 in
    let p₂ = (and_parts (leb e.flags r.most_flags) (leb r.least_anchor n && (leb n r.most_anchor && (leb t r.most_tag && leb v r.most_value))) p₁).1 in
    let p₃ = (and_parts (leb r.least_anchor n) (leb n r.most_anchor && (leb t r.most_tag && leb v r.most_value)) p₂).1 in
    let p₄ = and_parts (leb n r.most_anchor) (leb t r.most_tag && leb v r.most_value) p₃ in
    let p₅ = and_parts (leb t r.most_tag) (leb v r.most_value) p₄.1 in
    record { anchor = leb-true n r.most_anchor p₄.0; tag = leb-true t r.most_tag p₅.0; value = leb-true v r.most_value p₅.1 }

record Few (r : Row) : Type 0 where
  pub anchor : r.most_anchor ≤ 64
  pub tag : r.most_tag ≤ 256
  pub value : r.most_value ≤ 4096

few : (k : EventKind) → Few (table k)
few k = elim k as (λ v. Few (table v)) [
  | StreamStart ↦ record { anchor = omega arith; tag = omega arith; value = omega arith }
  | _ ↦ record { anchor = omega arith; tag = omega arith; value = omega arith }
]

-- no text is longer than the longest that is allowed
pub record Short (e : Ev) : Type 0 where
  pub anchor : length e.anchor ≤ 64
  pub tag : length e.tag ≤ 256
  pub value : length e.value ≤ 4096

pub allowed_short : (e : Ev) → allowed e ≡ true → Short e
allowed_short e a =
    let f = fits_row e a in
    let m = few e.kind in
    let fa = f.anchor in let ft = f.tag in let fv = f.value in
    let ma = m.anchor in let mt = m.tag in let mv = m.value in
    record { anchor = omega arith; tag = omega arith; value = omega arith }

-- what came was allowed
pub came_allowed : (f : Flow) (m : Marked) (f' : Flow) → Sound f → Came f m f' → allowed m.event ≡ true
came_allowed f m f' sound came =
    let first : all_allowed (m.event ∷ map bare f'.coming.events) ≡ true = sym (ap (λ l. all_allowed (map bare l)) came.first) ∙ sound in
    (and_parts (allowed m.event) (all_allowed (map bare f'.coming.events)) first).0
