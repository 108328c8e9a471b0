-- Each step of loading is a step of composing.
use Rattle.std.specs.Prelude.{◌≡◌, true, false, Ok}
use Rattle.model.specs.Events.{allowed}
use Rattle.model.specs.Reading.{Marked}
use Rattle.serial.specs.Compose.{TakesIn}
use Rattle.composer.specs.State.{St, Spaces}
use Rattle.composer.specs.Steps.{taking}
use Rattle.loader.specs.Loading.{is_document_end}
use Rattle.loads.specs.Tidy.{composed_of, Tidy}

-- the event was taken in, and the tables are tidy again
pub record TakenIn (m : Marked) (s t : St) : Type 0 where
  pub tidy : Tidy t
  pub taken : TakesIn (composed_of s) m.event (composed_of t)

-- an allowed event other than the document's end that is accepted is taken in
abbrev pub StepComposes : Type 0
StepComposes = (sp : Spaces) (m : Marked) (s t : St) → allowed m.event ≡ true → is_document_end m.event.kind ≡ false → Tidy s → taking sp m s ≡ Ok t → TakenIn m s t
