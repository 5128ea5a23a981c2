-- A grouping: a page's groups in arrays.
--
--   numbers_in g     the number of each cell's group
--   cells_in g       the cells group by group
--   starts_in g      where each group's cells start, and where the last's end
--   count_in g       how many groups there are
--   start_in g k     where group k's cells start in the list of cells
--   group_cells g k  the cells of group k
--   empty_grouping   a grouping whose numbers are all 0
--   grouping_of G    the grouping that holds the groups G
--   array_of G       the groups G as one list of 3,074 numbers: numbers, cells, starts and count
--   Filled G g       the grouping holds the groups G
--   Vacant n g       a grouping that may be lent for n cells: its places past the page are 0
use Rattle.std.specs.Prelude.{◌≡◌, List, [], ◌∷◌, ◌++◌, ℕ, ◌+◌, ◌-◌, get_or, take, drop, replicate}
use Rattle.groups.specs.declared.Grouping.{Grouping}
use Rattle.groups.specs.Parts.{Groups}
use Rattle.groups.specs.Arrays.{Blank}

abbrev pub numbers_in : Grouping → List ℕ
numbers_in g = g.numbers

abbrev pub cells_in : Grouping → List ℕ
cells_in g = g.cells

abbrev pub starts_in : Grouping → List ℕ
starts_in g = g.starts

abbrev pub count_in : Grouping → ℕ
count_in g = g.count

abbrev pub start_in : Grouping → ℕ → ℕ
start_in g k = get_or (starts_in g) k 0

abbrev pub group_cells : Grouping → ℕ → List ℕ
group_cells g k = take (start_in g (k + 1) - start_in g k) (drop (start_in g k) (cells_in g))

unfoldable pub empty_grouping : Grouping
empty_grouping =
    record { numbers = replicate 1024 0; cells = replicate 1024 0; starts = replicate 1025 0; count = 0 }

unfoldable pub grouping_of : Groups → Grouping
grouping_of G = record { numbers = G.ids; cells = G.cells; starts = G.offs; count = G.count }

unfoldable pub array_of : Groups → List ℕ
array_of G = G.ids ++ (G.cells ++ (G.offs ++ (G.count ∷ [])))

pub record Filled (G : Groups) (g : Grouping) : Type 0 where
  pub numbers : numbers_in g ≡ G.ids
  pub cells : cells_in g ≡ G.cells
  pub starts : starts_in g ≡ G.offs
  pub count : count_in g ≡ G.count

pub record Vacant (n : ℕ) (g : Grouping) : Type 0 where
  pub numbers : Blank 1024 n (numbers_in g)
  pub cells : Blank 1024 n (cells_in g)
  pub starts : Blank 1025 (n + 1) (starts_in g)
