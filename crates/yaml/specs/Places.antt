-- How far a reader has come, and what comes from there.
use Rattle.std.specs.Prelude.{◌≡◌, ℕ, ◌+◌, List, drop}
use Rattle.model.specs.declared.Mark.{Mark}
use Rattle.model.specs.Reading.{Coming, Front, mark_at, reading}
use Rattle.yaml.specs.declared.place.Cursor.{Cursor}

-- what comes of the input that is left
abbrev pub coming_at : (List ℕ → Front) → Cursor → Coming
coming_at front c = reading front 0 c.place c.count c.rest.now

-- all of the input is left
pub record Begins (bytes : List ℕ) (c : Cursor) : Type 0 where
  pub rest : c.rest.now ≡ bytes
  pub place : c.place ≡ 0
  pub count : c.count ≡ 0

-- an event of n bytes was passed over: the marks of its two ends, and what is left
pub record Passed (before : Cursor) (n : ℕ) (marks : Mark × Mark) (after : Cursor) : Type 0 where
  pub start : marks.0 ≡ mark_at before.place before.count
  pub end : marks.1 ≡ mark_at (before.place + n) before.count
  pub rest : after.rest.now ≡ drop n before.rest.now
  pub place : after.place ≡ before.place + n
  pub count : after.count ≡ before.count + 1
