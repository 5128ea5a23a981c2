-- A unit's outline: the places of its cells and of its connections in one array of 6,146 numbers.
--
--   rows_in o           the rows of the cells: places 0 to 1,023
--   columns_in o        their columns: places 1,024 to 2,047
--   down_in o           how far down the connections stand, doubled: places 2,048 to 4,095
--   across_in o         how far across: places 4,096 to 6,143
--   cell_count o        how many cells there are: place 6,144
--   joint_count o       how many connections there are: the last place
use Rattle.std.specs.Prelude.{List, ℕ, get_or}
use Rattle.lists.specs.Sections.{section}

abbrev pub rows_in : List ℕ → List ℕ
rows_in o = section 0 1024 o

abbrev pub columns_in : List ℕ → List ℕ
columns_in o = section 1024 1024 o

abbrev pub down_in : List ℕ → List ℕ
down_in o = section 2048 2048 o

abbrev pub across_in : List ℕ → List ℕ
across_in o = section 4096 2048 o

abbrev pub cell_count : List ℕ → ℕ
cell_count o = get_or o 6144 0

abbrev pub joint_count : List ℕ → ℕ
joint_count o = get_or o 6145 0
