-- What reading the parts of a line finds.
use Rattle.std.specs.Prelude.{◌≡◌, ℕ, ◌<◌, List, length, Ok, Err, Result}
use Rattle.std.specs.Borrow.{Bor}
use Rattle.model.specs.declared.Cause.{Cause}
use Rattle.model.specs.declared.Cause.TheVariants.{NotALine}

-- the text is held, and these bytes follow it
pub record Found (told past held after : List ℕ) : Type 0 where
  pub text : held ≡ told
  pub rest : after ≡ past

-- the text is longer than any that is held
pub record TooLong (most : ℕ) (text : List ℕ) (c : Cause) : Type 0 where
  pub cause : c ≡ NotALine
  pub longer : most < length text

abbrev pub ReadPart : ℕ → List ℕ → List ℕ → List ℕ → Result (Bor (List ℕ)) Cause → Type 0
ReadPart most text rest held (Ok after) = Found text rest held after.now
ReadPart most text rest held (Err c) = TooLong most text c
