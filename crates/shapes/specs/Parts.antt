-- A unit's part of the list of cells, and its places as written to the lent outline.
--
--   UnitPart units g w      the part of group g lies in the list of 1,024 cells, and the width is 1 to 32
--   place_of w c            the place of cell c on a page of width w
--   OutlinePlaced w L o     the outline's cells are the places of the cells L
use Rattle.std.specs.Prelude.{◌≡◌, List, map, ℕ, ◌+◌, ◌/◌, ◌%◌, ◌≤◌, ◌<◌, length}
use Rattle.rules.specs.Page.{Point}
use Rattle.groups.specs.declared.Grouping.{Grouping}
use Rattle.groups.specs.Grouping.{cells_in, start_in}
use Rattle.shapes.specs.Spots.{place_at, cell_spots}

pub record UnitPart (units : Grouping) (g w : ℕ) : Type 0 where
  pub group : g < 1024
  pub long : length (cells_in units) ≡ 1024
  pub order : start_in units g ≤ start_in units (g + 1)
  pub inside : start_in units (g + 1) ≤ 1024
  pub some : 1 ≤ w
  pub broad : w ≤ 32

abbrev pub place_of : ℕ → ℕ → Point
place_of w c = place_at (c / w) (c % w)

pub record OutlinePlaced (w : ℕ) (L o : List ℕ) : Type 0 where
  pub long : length o ≡ 6146
  pub here : cell_spots o ≡ map (place_of w) L
