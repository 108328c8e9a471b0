-- What the start of a document is like.
use Rattle.std.proofs.Common.{◌≡◌, true, [], sym, ap, ◌∙◌, arith}
use Rattle.std.proofs.lemmas.List.{nil_from_length}
use Rattle.model.specs.declared.EventKind.TheVariants.{DocumentStart}
use Rattle.model.specs.Events.{table, allowed}
use Rattle.model.specs.Reading.{Marked}
use Rattle.yaml.specs.declared.event.Head.{Head}
use Rattle.yaml.specs.Shapes.{head_of}
use Rattle.convert.proofs.Allowed.{fits_row}
use Rattle.loader.specs.Loads.{start_marked}

-- the start of a document is told whole by its head
pub start_told : (m : Marked) (h : Head) → h ≡ head_of m → allowed m.event ≡ true → m.event.kind ≡ DocumentStart → m ≡ start_marked h
start_told m h told a is =
    let f = fits_row m.event a in
    let no_anchor : m.event.anchor ≡ [] = let l = f.anchor in let z = ap (λ k. (table k).most_anchor) is in nil_from_length m.event.anchor (omega arith) in
    let no_tag : m.event.tag ≡ [] = let l = f.tag in let z = ap (λ k. (table k).most_tag) is in nil_from_length m.event.tag (omega arith) in
    let no_value : m.event.value ≡ [] = let l = f.value in let z = ap (λ k. (table k).most_value) is in nil_from_length m.event.value (omega arith) in
    (λ i. record { event = record { kind = m.event.kind; style = m.event.style; flags = m.event.flags; anchor = no_anchor i; tag = no_tag i; value = no_value i }; start = m.start; end = m.end })
    ∙ sym (ap start_marked told)
