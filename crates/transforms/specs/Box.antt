-- The cells of an image in order: the box that every image of a page lies in, place by place.
--
--   undone_by r           the row that undoes row r of the table
--   reversed s            the row that leads back from where s leads, as the code has it
--   corner                the first place of the box
--   box_at i              place i of the box: rows and columns from -33 to 32, row by row
--   box_size              how many places it has
--   of_image h w number g r p  p is a cell of the image of group g by row r: the way back leads to a cell of the group
--   box_cell h w number g r m i  place i of the box, shifted back by m, if it is a cell of the image
--   sweep h w number g r m n  those of the first n places
--   moved_back r m js     connections turned by row r, and shifted back by twice m
use Rattle.std.specs.Prelude.{Bool, cond, List, [], ◌∷◌, map, ℕ, negsuc, get_or}
use Rattle.lists.specs.Lists.{keep_if}
use Rattle.lists.specs.UpTo.{up_to}
use Rattle.rules.specs.Page.{Point, ◌⊕◌, opposite}
use Rattle.rules.specs.Flat.{flat_place}
use Rattle.rules.specs.Turns.{apply}
use Rattle.rules.specs.Shapes.{shift_by}
use Rattle.shapes.specs.declared.Signs.{Signs}
use Rattle.shapes.specs.Pairs.{point_at}
use Rattle.shapes.specs.Rows.{turn_at}
use Rattle.shapes.specs.Spots.{has_cell}

-- the two quarter turns undo each other, and any other row undoes itself
abbrev pub undone_by : ℕ → ℕ
undone_by r = get_or (0 ∷ 1 ∷ 3 ∷ 2 ∷ 4 ∷ 5 ∷ 6 ∷ 7 ∷ []) r 0

-- where the coordinates change places, so do their signs
abbrev pub reversed : Signs → Signs
reversed s =
    record {
      swap = s.swap;
      down = cond s.swap s.across s.down;
      across = cond s.swap s.down s.across;
    }

abbrev pub corner : Point
corner = point_at (negsuc 32) (negsuc 32)

unfoldable pub box_at : ℕ → Point
box_at i = flat_place 66 66 i ⊕ corner

abbrev pub box_size : ℕ
box_size = 4356

module _ (h w : ℕ) (number : ℕ → ℕ) (g r : ℕ) where
  unfoldable pub of_image : Point → Bool
  of_image p = has_cell h w number g (apply (turn_at (undone_by r)) p)

  module _ (m : Point) where
    unfoldable pub box_cell : ℕ → List Point
    box_cell i = map (λ j. box_at j ⊕ opposite m) (keep_if (of_image (box_at i)) i [])

    unfoldable pub sweep : ℕ → List Point
    sweep n = up_to box_cell n

-- "a transform maps them and keeps that order; a shift of the cells shifts them twice as far"
unfoldable pub moved_back : ℕ → Point → List Point → List Point
moved_back r m js = shift_by (opposite m ⊕ opposite m) (map (apply (turn_at r)) js)
