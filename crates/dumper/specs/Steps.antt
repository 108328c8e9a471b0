-- The steps of a walk, as the step table has them, and the events that they stand for.
use Rattle.std.specs.Prelude.{cond, List, [], ◌∷◌, map, Some, None, Option, ◌==◌}
use Rattle.model.specs.Events.{Ev}
use Rattle.serial.specs.Walk.{Token, first, again, leave}
use Rattle.yaml.specs.declared.event.Event.{Event}
use Rattle.yaml.specs.Shapes.{ev_of}
use Rattle.walk.specs.declared.entry.Step.{Step}

-- the step of an entry
abbrev pub token_of : Step → Token
token_of s = cond (s.what == 1) (first s.node) (cond (s.what == 2) (again s.node) (leave s.node))

abbrev pub tokens_of : List Step → List Token
tokens_of ss = map token_of ss

-- the event of a step, if there is one
abbrev pub listed : Option Event → List Ev
listed None = []
listed (Some e) = ev_of e ∷ []
