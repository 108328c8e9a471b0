-- The open collections, innermost first.
use Rattle.std.specs.Prelude.{◌≡◌, ℕ, ◌+◌, ◌<◌, ◌≤◌, List, [], ◌∷◌, reverse, length, take, Some, None, Ok, Err, Option, Result}
use Rattle.tables.specs.declared.stack.Full.{Full}
use Rattle.composer.specs.declared.frames.Frame.{Frame}
use Rattle.composer.specs.declared.frames.Frames.{Frames}
use Rattle.composer.specs.Steps.{one_more}

abbrev pub opens : Frames → List Frame
opens f = reverse (take f.count f.all)

-- n are open
pub record within (f : Frames) (n : ℕ) : Type 0 where
  pub held : n ≡ length (take f.count f.all)
  pub are_open : n ≡ length (opens f)
  pub few : n ≤ 256

abbrev pub innermost : List Frame → Option Frame
innermost [] = None
innermost (f ∷ fs) = Some f

abbrev pub outer : List Frame → List Frame
outer [] = []
outer (f ∷ fs) = fs

abbrev pub top_children : List Frame → ℕ
top_children [] = 0
top_children (f ∷ fs) = f.children

abbrev pub one_more_child : List Frame → List Frame
one_more_child [] = []
one_more_child (f ∷ fs) = one_more f ∷ fs

pub record OneOpened (before : Frames) (f : Frame) (after : Frames) : Type 0 where
  pub few : length (opens before) < 256
  pub now_open : opens after ≡ f ∷ opens before

pub record NoneOpened (before after : Frames) : Type 0 where
  pub many : 256 ≤ length (opens before)
  pub same : after ≡ before

abbrev pub Opened : Frames → Frame → Result (Unit {0}) Full → Frames → Type 0
Opened before f (Ok u) after = OneOpened before f after
Opened before f (Err e) after = NoneOpened before after

-- the children of all open collections
abbrev pub children_of : List Frame → ℕ
children_of [] = 0
children_of (f ∷ fs) = f.children + children_of fs
