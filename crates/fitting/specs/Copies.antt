-- A unit shifted: its connections at another place of the page.
--
--   Shift y x            the doubled shift (y,x), raised, is small and even
--   clear_shifted .. y x d  the connection d, shifted by what y and x stand for, is clear
--   cell_clear .. g y x c  so are the connections of cell c of group g, below then right
--   soon_end first last  where the first eight of the places first to last end
--   soon_in cells offs Q  the first eight cells of group Q
use Rattle.std.specs.Prelude.{◌≡◌, Bool, cond, List, ℕ, ◌+◌, ◌%◌, ◌<◌, ltb, get_or}
use Rattle.lists.specs.Lists.{all}
use Rattle.lists.specs.Parts.{part}
use Rattle.rules.specs.Page.{State, Point, ◌⊕◌}
use Rattle.rules.specs.Flat.{flat}
use Rattle.rules.specs.Shapes.{connections_at}
use Rattle.rules.specs.Codes.{unclued}
use Rattle.shapes.specs.Raising.{raised}
use Rattle.planes.specs.Placing.{reading_of, is_clear}

pub record Shift (y x : ℕ) : Type 0 where
  pub down : y < 128
  pub across : x < 128
  pub even : (y % 2 ≡ 0) × (x % 2 ≡ 0)

module _ (h w : ℕ) (cs : List ℕ) (s : ℕ → State) where
  unfoldable pub clear_shifted : ℕ → ℕ → Point → Bool
  clear_shifted y x d = is_clear (reading_of (unclued h w cs) s ((flat h w).reads (d ⊕ raised y x)))

  unfoldable pub cell_clear : (ℕ → ℕ) → ℕ → ℕ → ℕ → ℕ → Bool
  cell_clear number g y x c = all (clear_shifted y x) (connections_at (flat h w) number g c)

abbrev pub soon_end : ℕ → ℕ → ℕ
soon_end first last = cond (ltb last (first + 8)) last (first + 8)

unfoldable pub soon_in : List ℕ → List ℕ → ℕ → List ℕ
soon_in cells offs Q = part cells (get_or offs Q 0) (soon_end (get_or offs Q 0) (get_or offs (Q + 1) 0))
