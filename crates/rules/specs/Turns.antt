-- Turns and reflections as rows of a table: for each new coordinate, which old one it is, and its sign.
--
--   Axis, Row, Turn          a row of the table: for each new coordinate the old axis and whether its sign changes
--   coordinate a p           the coordinate of the place p along the axis a
--   signed minus k           k with its sign changed if minus
--   read r p                 the new coordinate of p that r gives
--   apply t p                the place p turned by the row t
--   row_of a t               what the row t has for the new coordinate along the axis a
--   compose_row r t          what r gives of a place that t has turned
--   compose a b              the row that does b, then a
--   plus a, minus a          the old coordinate along a with its sign kept, with its sign changed
--   flat_turn r c            the row that gives the new row by r and the new column by c, and keeps the layer
--   keep                     the row that changes nothing
--   half, quarter, flip      the rows that 01 names
--   half_quarter, flip_half  the quarter followed by the half; the half followed by the flip
--   flip_quarter, flip_half_quarter  the quarter followed by the flip; the quarter followed by the half, then the flip
--   flat_table               the eight rows of a flat page: signs and swaps of (y,x)
use Rattle.std.specs.Prelude.{Bool, true, false, List, [], ◌∷◌, ℤ, neg_ℤ}
use Rattle.std.specs.Bool.{xor}
use Rattle.rules.specs.Page.{Point}

pub data Axis : Type 0 where
  layerward rowward columnward : Axis

pub record Row : Type 0 where
  pub axis : Axis
  pub minus : Bool

pub record Turn : Type 0 where
  pub layers : Row
  pub rows : Row
  pub columns : Row

abbrev pub coordinate : Axis → Point → ℤ
coordinate layerward p = p.layer
coordinate rowward p = p.row
coordinate columnward p = p.column

abbrev pub signed : Bool → ℤ → ℤ
signed true k = neg_ℤ k
signed false k = k

abbrev pub read : Row → Point → ℤ
read r p = signed r.minus (coordinate r.axis p)

unfoldable pub apply : Turn → Point → Point
apply t p = record { layer = read t.layers p; row = read t.rows p; column = read t.columns p }

abbrev pub row_of : Axis → Turn → Row
row_of layerward t = t.layers
row_of rowward t = t.rows
row_of columnward t = t.columns

abbrev pub compose_row : Row → Turn → Row
compose_row r t = record { axis = (row_of r.axis t).axis; minus = xor r.minus (row_of r.axis t).minus }

abbrev pub compose : Turn → Turn → Turn
compose a b =
    record {
      layers = compose_row a.layers b;
      rows = compose_row a.rows b;
      columns = compose_row a.columns b;
    }

abbrev pub plus : Axis → Row
plus a = record { axis = a; minus = false }

abbrev pub minus : Axis → Row
minus a = record { axis = a; minus = true }

-- a row of a flat page gives the new row and the new column; the layer stays
abbrev pub flat_turn : Row → Row → Turn
flat_turn r c = record { layers = plus layerward; rows = r; columns = c }

abbrev pub keep : Turn
keep = flat_turn (plus rowward) (plus columnward)

-- "half: (−y,−x)"
abbrev pub half : Turn
half = flat_turn (minus rowward) (minus columnward)

-- "Quarter turn: (y,x) to (x,−y)"
abbrev pub quarter : Turn
quarter = flat_turn (plus columnward) (minus rowward)

-- "flip: (−y,x)"
abbrev pub flip : Turn
flip = flat_turn (minus rowward) (plus columnward)

abbrev pub half_quarter : Turn
half_quarter = flat_turn (minus columnward) (plus rowward)

abbrev pub flip_half : Turn
flip_half = flat_turn (plus rowward) (minus columnward)

abbrev pub flip_quarter : Turn
flip_quarter = flat_turn (minus columnward) (minus rowward)

abbrev pub flip_half_quarter : Turn
flip_half_quarter = flat_turn (plus columnward) (plus rowward)

-- "eight rows of signs and swaps", in the order in which they are listed where all eight images differ:
-- (y,x) (−y,−x) (−x,y) (x,−y), and each of them flipped: (−y,x) (y,−x) (x,y) (−x,−y)
abbrev pub flat_table : List Turn
flat_table =
    keep ∷ half ∷ half_quarter ∷ quarter ∷ flip ∷ flip_half ∷ flip_half_quarter ∷ flip_quarter ∷ []
