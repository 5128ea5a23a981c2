-- Survivors: the origins at which a transform lies on one colour, and its placements there, read from the end.
--
--   On h w y x          the raised doubled place (y,x) lies on the page
--   border_at h w y x   the border there
--   wall_of h w bs y x  it is a wall, by the borders bs
--   no_walls            borders of which none is wall
--   Survived p m h ts n rows  rows has the origins of the mask m at which all n connections are clear by p
--   Lain h w rows ts n  at the origins in rows every connection is on the page
--   PlacesDrawn h w places  for each cell 32 times its row, and its column
--   blocker_of p        the blocker of a placement, if it has one
--   back_of h w bs .. y x n  the placement with its origin at (y,x), n connections read from the last one on: the first
--                       wall is the blocker
--   placed_at .. y x    the placement with its origin at (y,x), which cannot lie there unless rows has that origin
--   block_in .. o       the blocker of the placement with its origin at cell o, if it has one
use Rattle.std.specs.Prelude.{◌≡◌, Bool, true, cond, List, [], ◌∷◌, ℕ, zero, suc, ◌+◌, ◌-◌, ◌*◌, ◌/◌, ◌%◌, ◌≤◌, ◌<◌}
use Rattle.std.specs.Prelude.{eqb, length, get_or, replicate}
use Rattle.rules.specs.declared.Literal.{Literal}
use Rattle.rules.specs.declared.Placement.{Placement}
use Rattle.rules.specs.declared.Placement.TheVariants.{Fits, Blocked, Cannot}
use Rattle.rules.specs.Flat.{below_of, right_of}
use Rattle.rules.specs.Page.{wall_at}
use Rattle.shapes.specs.Raising.{ys_in, xs_in}
use Rattle.planes.specs.Bits.{bit_at}
use Rattle.planes.specs.Masks.{clear_word}

pub record On (h w y x : ℕ) : Type 0 where
  pub top : 64 ≤ y
  pub left : 64 ≤ x
  pub bottom : y - 64 ≤ 2 * (h - 1)
  pub right : x - 64 ≤ 2 * (w - 1)

unfoldable pub border_at : ℕ → ℕ → ℕ → ℕ → ℕ
border_at h w y x =
    cond (eqb ((y - 64) % 2) 1) (below_of h w ((y - 64) / 2) ((x - 64) / 2))
    (right_of h w ((y - 64) / 2) ((x - 64) / 2))

unfoldable pub wall_of : ℕ → ℕ → List ℕ → ℕ → ℕ → Bool
wall_of h w bs y x = eqb (get_or bs (border_at h w y x) 0) 1

abbrev pub no_walls : List ℕ
no_walls = replicate 1984 0

pub record Survived (p m : List ℕ) (h : ℕ) (ts : List ℕ) (n : ℕ) (rows : List ℕ) : Type 0 where
  pub size : length rows ≡ 32
  pub each : (y : ℕ) → y < h → get_or rows y 0 ≡ clear_word p y ts (get_or m y 0) n

pub record Lain (h w : ℕ) (rows ts : List ℕ) (n : ℕ) : Type 0 where
  pub each : (y x : ℕ) → y < h → x < w → bit_at (get_or rows y 0) x ≡ true → (j : ℕ) → j < n
      → On h w (2 * y + get_or (ys_in ts) j 0) (2 * x + get_or (xs_in ts) j 0)

pub record PlacesDrawn (h w : ℕ) (places : List ℕ) : Type 0 where
  pub size : length places ≡ 1024
  pub each : (c : ℕ) → c < h * w → get_or places c 0 ≡ c / w * 32 + c % w

abbrev pub blocker_of : Placement → List Literal
blocker_of Fits = []
blocker_of Cannot = []
blocker_of (Blocked b) = wall_at b ∷ []

module _ (h w : ℕ) (bs : List ℕ) where
  -- "the last wall is the blocker"
  unfoldable pub back_of : List ℕ → ℕ → ℕ → ℕ → Placement
  back_of ts y x zero = Fits
  back_of ts y x (suc j) =
      cond (wall_of h w bs (2 * y + get_or (ys_in ts) j 0) (2 * x + get_or (xs_in ts) j 0))
      (Blocked (border_at h w (2 * y + get_or (ys_in ts) j 0) (2 * x + get_or (xs_in ts) j 0))) (back_of ts y x j)

  module _ (rows ts : List ℕ) (n : ℕ) where
    unfoldable pub placed_at : ℕ → ℕ → Placement
    placed_at y x = cond (bit_at (get_or rows y 0) x) (back_of ts y x n) Cannot

    unfoldable pub block_in : ℕ → List Literal
    block_in o = blocker_of (placed_at (o / w) (o % w))
