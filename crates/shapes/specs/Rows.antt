-- The listed transforms as rows of the table, and what the code of this crate computes.
--
--   turn_at r           row r of the table
--   image r t           the shape t turned by row r
--   fixes t r           row r leaves the cells of t as they are
--   flip_listed t       one of the four reflections leaves t as it is
--   rotation_rows, rows_by  the listed rows, by which rows leave the shape
--   rows_of t           the listed rows of the shape t
use Rattle.std.specs.Prelude.{Bool, true, false, ◌||◌, cond, List, [], ◌∷◌, ◌++◌, map, ℕ, ◌+◌, get_or}
use Rattle.rules.specs.Page.{Shape}
use Rattle.rules.specs.Turns.{Turn, apply, keep, flat_table}
use Rattle.rules.specs.Shapes.{turned, same_shape}

-- "Every transform is read from eight rows of signs and swaps"
abbrev pub turn_at : ℕ → Turn
turn_at r = get_or flat_table r keep

unfoldable pub image : ℕ → Shape → Shape
image r t = turned (apply (turn_at r)) t

unfoldable pub fixes : Shape → ℕ → Bool
fixes t r = same_shape t (image r t)

-- "if the flip is not yet listed"
unfoldable pub flip_listed : Shape → Bool
flip_listed t = fixes t 4 || fixes t 5 || fixes t 6 || fixes t 7

-- the rows that are no reflections, by whether the half and the quarter leave the shape
abbrev pub rotation_rows : Bool → Bool → List ℕ
rotation_rows true true = 0 ∷ []
rotation_rows true false = 0 ∷ 3 ∷ []
rotation_rows false quarter = 0 ∷ 1 ∷ 2 ∷ 3 ∷ []

-- row r + 4 is the flip of row r
abbrev pub rows_by : Bool → Bool → Bool → List ℕ
rows_by half quarter listed =
    cond listed (rotation_rows half quarter)
    (rotation_rows half quarter ++ map (λ r. r + 4) (rotation_rows half quarter))

unfoldable pub rows_of : Shape → List ℕ
rows_of t = rows_by (fixes t 1) (fixes t 3) (flip_listed t)
