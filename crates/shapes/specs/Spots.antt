-- A unit as the code reads it: the rows and columns of its cells, in an outline.
--
--   place_at y x        the place (y,x) of a flat page
--   spot_at R C i       the place whose row is R's entry i and whose column is C's
--   spots R C n         the first n of these places
--   cell_spot o i, cell_spots o  the place of the outline's cell i, and those of all its cells
--   joint_spot o j, joint_spots o  the doubled place of its connection j, and those of all its connections
--   least_image r ps    the first in order of the places ps turned by row r
--   first_of ps         the first of the places ps; the origin if there is none
--   onto_shift r ps     the shift that lays the least image on the first of ps
--   cell_in h w number g y x  (y,x) is a cell of the page, and of group g
--   has_cell_in h w number g l y x  the same of signed coordinates, in the layer l
--   has_cell h w number g p  p is a cell of the page, and of group g
--   places, joints      a group's places, and its connections, both where they stand on the page
--   within h w number g o r v  the images of the outline's cells by row r, shifted by v, are cells of group g
--   NearSpot p          the place is on the largest page or a turn of it
--   SpotIn o i          the place of the outline's cell i is on the largest page
--   Spotted o           the outline has cells, at least one, each on the largest page
--   UnitAt h w units g o  they are the cells of group g of the grouping units
use Rattle.std.specs.Prelude.{Bool, false, ◌&&◌, List, [], ◌∷◌, map, ◌≡◌, ℕ, zero, suc, ◌<◌, ◌≤◌, eqb, ltb, ℤ, pos}
use Rattle.std.specs.Prelude.{negsuc, length, get_or}
use Rattle.std.specs.Int.Signed.{mag}
use Rattle.lists.specs.Lists.{flat_map}
use Rattle.lists.specs.Table.{table}
use Rattle.lists.specs.Tests.{all_below}
use Rattle.rules.specs.Page.{Point, ◌⊕◌, opposite}
use Rattle.rules.specs.Flat.{Sized, flat, cell_at}
use Rattle.rules.specs.Groups.{entry, members}
use Rattle.rules.specs.Turns.{apply}
use Rattle.rules.specs.Shapes.{connections_at}
use Rattle.laws.specs.PointLaws.{origin}
use Rattle.groups.specs.declared.Grouping.{Grouping}
use Rattle.groups.specs.Grouping.{numbers_in}
use Rattle.shapes.specs.Outlines.{rows_in, columns_in, down_in, across_in, cell_count, joint_count}
use Rattle.shapes.specs.Rows.{turn_at}
use Rattle.shapes.specs.Order.{least}

abbrev pub place_at : ℕ → ℕ → Point
place_at y x = record { layer = pos 0; row = pos y; column = pos x }

abbrev pub spot_at : List ℕ → List ℕ → ℕ → Point
spot_at R C i = place_at (get_or R i 0) (get_or C i 0)

unfoldable pub spots : List ℕ → List ℕ → ℕ → List Point
spots R C n = table n (spot_at R C)

abbrev pub cell_spot : List ℕ → ℕ → Point
cell_spot o i = spot_at (rows_in o) (columns_in o) i

abbrev pub cell_spots : List ℕ → List Point
cell_spots o = spots (rows_in o) (columns_in o) (cell_count o)

abbrev pub joint_spot : List ℕ → ℕ → Point
joint_spot o j = spot_at (down_in o) (across_in o) j

abbrev pub joint_spots : List ℕ → List Point
joint_spots o = spots (down_in o) (across_in o) (joint_count o)

-- "first at (0,0)": the image that becomes the first cell
unfoldable pub least_image : ℕ → List Point → Point
least_image r [] = origin
least_image r (p ∷ ps) = least (apply (turn_at r) p) (map (apply (turn_at r)) ps)

abbrev pub first_of : List Point → Point
first_of [] = origin
first_of (p ∷ ps) = p

unfoldable pub onto_shift : ℕ → List Point → Point
onto_shift r ps = opposite (least_image r ps) ⊕ first_of ps

module _ (h w : ℕ) (number : ℕ → ℕ) (g : ℕ) where
  unfoldable pub cell_in : ℕ → ℕ → Bool
  cell_in y x = ltb y h && ltb x w && eqb (number (cell_at h w y x)) g

  abbrev pub has_cell_in : ℤ → ℤ → ℤ → Bool
  has_cell_in (pos zero) (pos y) (pos x) = cell_in y x
  has_cell_in (pos zero) (pos y) (negsuc x) = false
  has_cell_in (pos zero) (negsuc y) x = false
  has_cell_in (pos (suc l)) y x = false
  has_cell_in (negsuc l) y x = false

  unfoldable pub has_cell : Point → Bool
  has_cell p = has_cell_in p.layer p.row p.column

  unfoldable pub places : List Point
  places = map (flat h w).place (members (flat h w) number g)

  -- "the sums of all adjacent pairs of cells, whatever their border holds; per cell, below then right"
  unfoldable pub joints : List Point
  joints = flat_map (connections_at (flat h w) number g) (members (flat h w) number g)

-- every image, shifted by v, is a cell of the group
unfoldable pub within : ℕ → ℕ → (ℕ → ℕ) → ℕ → List ℕ → ℕ → Point → Bool
within h w number g o r v =
    all_below (cell_count o) (λ i. has_cell h w number g (apply (turn_at r) (cell_spot o i) ⊕ v))

pub record NearSpot (p : Point) : Type 0 where
  pub layer : mag p.layer < 33
  pub row : mag p.row < 33
  pub column : mag p.column < 33

pub record SpotIn (o : List ℕ) (i : ℕ) : Type 0 where
  pub inside : i < 1024
  pub down : get_or (rows_in o) i 0 < 32
  pub across : get_or (columns_in o) i 0 < 32

pub record Spotted (o : List ℕ) : Type 0 where
  pub long : length o ≡ 6146
  pub some : 1 ≤ cell_count o
  pub most : cell_count o ≤ 1024
  pub down : (i : ℕ) → i < cell_count o → get_or (rows_in o) i 0 < 32
  pub across : (i : ℕ) → i < cell_count o → get_or (columns_in o) i 0 < 32

pub record UnitAt (h w : ℕ) (units : Grouping) (g : ℕ) (o : List ℕ) : Type 0 where
  pub sized : Sized h w
  pub long : length (numbers_in units) ≡ 1024
  pub spotted : Spotted o
  pub here : cell_spots o ≡ places h w (entry (numbers_in units)) g
