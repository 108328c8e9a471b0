-- The texts of a source's latest event.
use Rattle.std.specs.Prelude.{ℕ, List, [], Some, None, Option}
use Rattle.model.specs.Events.{Ev}
use Rattle.yaml.specs.declared.event.Text.{Text}
use Rattle.yaml.specs.Shapes.{text_of}
use Rattle.yaml.specs.Flow.{Flow}

abbrev text_in : Option Ev → Text → List ℕ
text_in None t = []
text_in (Some e) t = text_of t e

-- a text of the latest event, or no bytes before any event
abbrev pub latest_text : Flow → Text → List ℕ
latest_text f t = text_in f.latest t
