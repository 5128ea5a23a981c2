-- Board's numbering: the flat page of h rows and w columns.
--
--   Sized h w            a page's size
--   hop_if test b c      the hop over border b to cell c where the test holds, otherwise none
--   cell_at y x          the number of cell (y,x)
--   right_of y x         the border right of cell (y,x)
--   below_of y x         the border below cell (y,x)
--   border_count         how many borders there are
--   hop_above, hop_below, hop_left, hop_right  the neighbour of (y,x) there, if there is one
--   around_at y x        the neighbours of (y,x) above, below, left and right
--   ahead_at y x         its neighbours below and right
--   flat_first b         the cell above or left of border b
--   flat_second b        the cell below or right of border b
--   flat_place c         the place of cell c: its row and column
--   flat_reads_at y x    the border that the doubled place (y,x) reads; none if it is off the page
--   flat_reads_in l y x  the same with the layer l and signs; none in another layer or below 0
--   flat_reads p         the border that a doubled place reads; none if it is off the page
--   flat h w             the page
use Rattle.std.specs.Prelude.{Bool, true, false, ◌&&◌, cond, List, [], ◌∷◌, ◌++◌, map, ℕ, zero, suc, ◌+◌, ◌-◌, ◌*◌, ◌/◌}
use Rattle.std.specs.Prelude.{◌%◌, ◌≤◌, eqb, ltb, leb, ℤ, pos, negsuc}
use Rattle.std.proofs.Math.Option.{Option, some, none}
use Rattle.rules.specs.Page.{Page, Point, Hop}
use Rattle.rules.specs.Shapes.{flat_transforms}
use Rattle.rules.specs.Turns.{apply, flat_table}

-- "Height h and width w are 1 to 32"
pub record Sized (h w : ℕ) : Type 0 where
  pub rows : 1 ≤ h
  pub columns : 1 ≤ w
  pub tall : h ≤ 32
  pub broad : w ≤ 32

unfoldable pub hop_if : Bool → ℕ → ℕ → List Hop
hop_if true b c = record { border = b; to = c } ∷ []
hop_if false b c = []

module _ (h w : ℕ) where
  -- "Cell (y,x) is number y·w+x"
  unfoldable pub cell_at : ℕ → ℕ → ℕ
  cell_at y x = y * w + x

  -- "The border right of (y,x) is y·(w−1)+x"
  unfoldable pub right_of : ℕ → ℕ → ℕ
  right_of y x = y * (w - 1) + x

  -- "the one below is h·(w−1)+y·w+x"
  unfoldable pub below_of : ℕ → ℕ → ℕ
  below_of y x = h * (w - 1) + (y * w + x)

  -- "there are h·(w−1)+(h−1)·w"
  unfoldable pub border_count : ℕ
  border_count = h * (w - 1) + (h - 1) * w

  unfoldable pub hop_above : ℕ → ℕ → List Hop
  hop_above y x = hop_if (ltb 0 y) (below_of (y - 1) x) (cell_at (y - 1) x)

  unfoldable pub hop_below : ℕ → ℕ → List Hop
  hop_below y x = hop_if (ltb (y + 1) h) (below_of y x) (cell_at (y + 1) x)

  unfoldable pub hop_left : ℕ → ℕ → List Hop
  hop_left y x = hop_if (ltb 0 x) (right_of y (x - 1)) (cell_at y (x - 1))

  unfoldable pub hop_right : ℕ → ℕ → List Hop
  hop_right y x = hop_if (ltb (x + 1) w) (right_of y x) (cell_at y (x + 1))

  unfoldable pub around_at : ℕ → ℕ → List Hop
  around_at y x = hop_above y x ++ (hop_below y x ++ (hop_left y x ++ hop_right y x))

  unfoldable pub ahead_at : ℕ → ℕ → List Hop
  ahead_at y x = hop_below y x ++ hop_right y x

  -- the cell above or left of a border, and the cell below or right of it
  unfoldable pub flat_first : ℕ → ℕ
  flat_first b = cond (ltb b (h * (w - 1))) (cell_at (b / (w - 1)) (b % (w - 1))) (b - h * (w - 1))

  unfoldable pub flat_second : ℕ → ℕ
  flat_second b = cond (ltb b (h * (w - 1))) (cell_at (b / (w - 1)) (b % (w - 1) + 1)) (b - h * (w - 1) + w)

  unfoldable pub flat_place : ℕ → Point
  flat_place c = record { layer = pos 0; row = pos (c / w); column = pos (c % w) }

  -- "off the page (outside 0 to 2(h−1) down, 0 to 2(w−1) across)"; an odd row lies between two rows
  unfoldable pub flat_reads_at : ℕ → ℕ → Option ℕ
  flat_reads_at y x =
      cond (leb y (2 * (h - 1)) && leb x (2 * (w - 1)))
      (some (cond (eqb (y % 2) 1) (below_of (y / 2) (x / 2)) (right_of (y / 2) (x / 2))))
      none

  abbrev pub flat_reads_in : ℤ → ℤ → ℤ → Option ℕ
  flat_reads_in (pos zero) (pos y) (pos x) = flat_reads_at y x
  flat_reads_in (pos zero) (pos y) (negsuc x) = none
  flat_reads_in (pos zero) (negsuc y) x = none
  flat_reads_in (pos (suc l)) y x = none
  flat_reads_in (negsuc l) y x = none

  unfoldable pub flat_reads : Point → Option ℕ
  flat_reads p = flat_reads_in p.layer p.row p.column

  unfoldable pub flat : Page
  flat =
      record {
        cells = h * w;
        borders = border_count;
        first = flat_first;
        second = flat_second;
        ahead = λ c. ahead_at (c / w) (c % w);
        around = λ c. around_at (c / w) (c % w);
        place = flat_place;
        reads = flat_reads;
        turns = map apply flat_table;
        transforms = flat_transforms;
      }
