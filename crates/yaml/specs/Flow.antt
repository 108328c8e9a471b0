-- What a source means, and what taking an event from it does.
use Rattle.std.specs.Prelude.{◌≡◌, ℕ, true, cond, List, [], ◌∷◌, length, Some, None, Ok, Err, Option, Result, nat_lt, slice_index}
use Rattle.model.specs.declared.Fault.{Fault}
use Rattle.model.specs.Events.{Ev, all_allowed}
use Rattle.model.specs.Reading.{Marked, Coming, events_of}
use Rattle.yaml.specs.declared.event.Head.{Head}
use Rattle.yaml.specs.declared.event.Text.{Text}
use Rattle.yaml.specs.Shapes.{head_of, text_of}

pub record Flow : Type 0 where
  pub latest : Option Ev
  pub coming : Coming

abbrev pub Sound : Flow → Type 0
Sound f = all_allowed (events_of f.coming) ≡ true

-- the event m came: it was the first, and is now the latest
pub record Came (before : Flow) (m : Marked) (after : Flow) : Type 0 where
  pub first : before.coming.events ≡ m ∷ after.coming.events
  pub lasting : after.coming.after ≡ before.coming.after
  pub latest : after.latest ≡ Some m.event

-- nothing came: no event was left, what stands after them is told, and nothing alters
pub record Over (before : Flow) (end : Option Fault) (after : Flow) : Type 0 where
  pub none_left : before.coming.events ≡ []
  pub told : before.coming.after ≡ end
  pub same : after ≡ before

abbrev pub Gave : Flow → Result (Option Head) Fault → Flow → Type 0
Gave before (Ok (Some h)) after = (m : Marked) × Came before m after × (h ≡ head_of m)
Gave before (Ok None) after = Over before None after
Gave before (Err f) after = Over before (Some f) after

-- the byte at i, if there is one
abbrev pub byte_at : List ℕ → ℕ → Option ℕ
byte_at bs i = cond (nat_lt i (length bs)) (Some (slice_index bs i)) None

abbrev byte_in : Option Ev → Text → ℕ → Option ℕ
byte_in None t i = None
byte_in (Some e) t i = byte_at (text_of t e) i

abbrev pub byte_of : Flow → Text → ℕ → Option ℕ
byte_of f t i = byte_in f.latest t i
