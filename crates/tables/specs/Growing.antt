-- Entries put into a table from a place on.
use Rattle.std.specs.Prelude.{◌≡◌, ℕ, ◌+◌, List, ◌++◌, length, take, drop}

-- i of the entries stand past the first `held`
pub record Growing {X : Type 0} (old new entries : List X) (held i : ℕ) : Type 0 where
  pub front : take (held + i) new ≡ take held old ++ take i entries
  pub rest : drop (held + i) new ≡ drop (held + i) old
  pub long : length new ≡ length old
