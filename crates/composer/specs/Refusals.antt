-- The numbers and the marks of the refusals.
use Rattle.std.specs.Prelude.{ℕ}
use Rattle.model.specs.declared.Mark.{Mark}
use Rattle.document.specs.Empty.{zero_mark}
use Rattle.composer.specs.declared.refusal.Refusal.{Refusal}
use Rattle.composer.specs.declared.refusal.Refusal.TheVariants.{EarlierRefused, SourceFault, NoEvent, NotInTurn, UnknownAlias, NodesFull, TextFull, AnchorAgain, AnchorsFull, ChildrenFull, TooDeep}

abbrev pub refusal_number : Refusal → ℕ
refusal_number EarlierRefused = 20
refusal_number (SourceFault f) = 21
refusal_number NoEvent = 22
refusal_number (NotInTurn at) = 23
refusal_number (UnknownAlias at) = 24
refusal_number (NodesFull at) = 25
refusal_number (TextFull at) = 26
refusal_number (AnchorAgain at first) = 27
refusal_number (AnchorsFull at) = 28
refusal_number (ChildrenFull at) = 29
refusal_number (TooDeep at) = 30

-- where the refused event begins
abbrev pub refusal_mark : Refusal → Mark
refusal_mark EarlierRefused = zero_mark
refusal_mark (SourceFault f) = zero_mark
refusal_mark NoEvent = zero_mark
refusal_mark (NotInTurn at) = at
refusal_mark (UnknownAlias at) = at
refusal_mark (NodesFull at) = at
refusal_mark (TextFull at) = at
refusal_mark (AnchorAgain at first) = at
refusal_mark (AnchorsFull at) = at
refusal_mark (ChildrenFull at) = at
refusal_mark (TooDeep at) = at
