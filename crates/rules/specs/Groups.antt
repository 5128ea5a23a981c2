-- Groups: blocks, units and potential units, and their numbers.
--
--   entry L x              the entry of cell x in the list L
--   rename lo hi l         lo where l is hi, otherwise l
--   merge test a b L       the labels L with the groups a and b made one, known by a if the test holds, else by b
--   merge_if test a b L    where the test holds, these two made one, known by the earlier; otherwise L
--   merge_all G link L bs  the same for the two cells of each of the borders bs that pass the test link, in order
--   labels G link          for each cell the first cell of its group, the borders taken in order
--   is_first L x           x is the first cell of its group
--   numbers G link         for each cell the number of its group
--   group_count G link     how many groups there are
--   members G number g     the cells of group g, in row order; none if no group has the number g
--   joins_potential        the borders that join the cells of a potential unit
--   block_of, unit_of, potential_of  the number of a cell's block, unit, potential unit
--   block_count, unit_count, potential_count  how many there are
use Rattle.std.specs.Prelude.{Bool, true, false, not, ◌&&◌, cond, List, [], ◌∷◌, map, ℕ, eqb, leb, get_or}
use Rattle.lists.specs.Lists.{filter, range}
use Rattle.lists.specs.Count.{count_below}
use Rattle.rules.specs.Page.{Page, Puzzle, State, is_wall}
use Rattle.rules.specs.Rules.{one_colour, joins_block, joins_unit}

-- the entry of cell x
unfoldable pub entry : List ℕ → ℕ → ℕ
entry L x = get_or L x 0

abbrev pub rename : ℕ → ℕ → ℕ → ℕ
rename lo hi l = cond (eqb l hi) lo l

-- two groups become one, known by the earlier of their first cells
abbrev pub merge : Bool → ℕ → ℕ → List ℕ → List ℕ
merge true a b L = map (rename a b) L
merge false a b L = map (rename b a) L

abbrev pub merge_if : Bool → ℕ → ℕ → List ℕ → List ℕ
merge_if true a b L = merge (leb a b) a b L
merge_if false a b L = L

abbrev pub merge_all : Page → (ℕ → Bool) → List ℕ → List ℕ → List ℕ
merge_all G link L [] = L
merge_all G link L (b ∷ bs) =
    merge_all G link (merge_if (link b) (entry L (G.first b)) (entry L (G.second b)) L) bs

-- at first each cell is a group; each border that joins, in order, makes the groups of its two cells one
unfoldable pub labels : Page → (ℕ → Bool) → List ℕ
labels G link = merge_all G link (range G.cells) (range G.borders)

unfoldable pub is_first : List ℕ → ℕ → Bool
is_first L x = eqb (entry L x) x

-- "Groups are numbered from 0 by their first cell in row order": by how many first cells stand before it
unfoldable pub numbers : Page → (ℕ → Bool) → List ℕ
numbers G link = let L : List ℕ = labels G link in map (λ k. count_below k (is_first L)) L

unfoldable pub group_count : Page → (ℕ → Bool) → ℕ
group_count G link = let L : List ℕ = labels G link in count_below G.cells (is_first L)

-- "cells in a group stand in row order. A number that no group has gives an empty part"
unfoldable pub members : Page → (ℕ → ℕ) → ℕ → List ℕ
members G number g = filter (λ x. eqb (number x) g) (range G.cells)

module _ (Z : Puzzle) (s : ℕ → State) where
  -- "potential units over open or undecided borders of one colour"
  unfoldable pub joins_potential : ℕ → Bool
  joins_potential b = not (is_wall (s b)) && one_colour Z b

  -- "Blocks join over open borders"
  abbrev pub block_of : ℕ → ℕ
  block_of = entry (numbers Z.page (joins_block Z s))

  abbrev pub block_count : ℕ
  block_count = group_count Z.page (joins_block Z s)

  -- "units over open borders of one colour"
  abbrev pub unit_of : ℕ → ℕ
  unit_of = entry (numbers Z.page (joins_unit Z s))

  abbrev pub unit_count : ℕ
  unit_count = group_count Z.page (joins_unit Z s)

  abbrev pub potential_of : ℕ → ℕ
  potential_of = entry (numbers Z.page joins_potential)

  abbrev pub potential_count : ℕ
  potential_count = group_count Z.page joins_potential
