-- How the code's records show the events that they stand for.
use Rattle.std.specs.Prelude.{ℕ, Bool, List, length}
use Rattle.model.specs.declared.Mark.{Mark}
use Rattle.model.specs.Events.{Ev, Row, table, within}
use Rattle.model.specs.Reading.{Marked}
use Rattle.yaml.specs.declared.event.Event.{Event}
use Rattle.yaml.specs.declared.event.Head.{Head}
use Rattle.yaml.specs.declared.event.Limits.{Limits}
use Rattle.yaml.specs.declared.event.Shape.{Shape}
use Rattle.yaml.specs.declared.event.Text.{Text}
use Rattle.yaml.specs.declared.event.Text.TheVariants.{Anchor, Tag, Value}

-- the event of a record, without its marks
abbrev pub ev_of : Event → Ev
ev_of e = record { kind = e.kind; style = e.style; flags = e.flags; anchor = e.anchor.now; tag = e.tag.now; value = e.value.now }

-- what a source tells at once of an event between two marks
abbrev pub head_with : Ev → Mark → Mark → Head
head_with e start end = record { kind = e.kind; style = e.style; flags = e.flags; anchor = length e.anchor; tag = length e.tag; value = length e.value; start = start; end = end }

abbrev pub head_of : Marked → Head
head_of m = head_with m.event m.start m.end

abbrev pub text_of : Text → Ev → List ℕ
text_of Anchor e = e.anchor
text_of Tag e = e.tag
text_of Value e = e.value

abbrev pub row_of : Limits → Row
row_of l = record { most_style = l.style; most_flags = l.flags; least_anchor = l.least_anchor; most_anchor = l.anchor; most_tag = l.tag; most_value = l.value }

-- an event with its texts by their lengths
abbrev pub shape_of : Ev → Shape
shape_of e = record { kind = e.kind; style = e.style; flags = e.flags; anchor = length e.anchor; tag = length e.tag; value = length e.value }

-- some event may have this shape
abbrev pub shape_allowed : Shape → Bool
shape_allowed s = within (table s.kind) s.style s.flags s.anchor s.tag s.value
