-- What the callers of `list_rows` take of the listed rows.
--
--   Rows rs             at most eight rows of the table, at least one
use Rattle.std.specs.Prelude.{List, ℕ, ◌<◌, ◌≤◌, length, get_or}

pub record Rows (rs : List ℕ) : Type 0 where
  pub some : 1 ≤ length rs
  pub few : length rs ≤ 8
  pub low : (j : ℕ) → j < length rs → get_or rs j 0 < 8
