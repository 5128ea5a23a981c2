-- Arrays: the lists of cells by group that step 1 reads. A part of a list is lists' `part`, a group's part groups'
-- `part_of`.
--
--   CellsListed cs          a list of cell numbers, of no more than 1,024
--   PartListed from to cs   such a part of an array of cell numbers
--   GroupLists cs offs n    a list of the cells of n groups
--   size_in offs g          how many cells group g has, from the places where the groups start
--   Parted ids offs         numbers of groups, and places where they start
use Rattle.std.specs.Prelude.{◌≡◌, List, ℕ, ◌+◌, ◌-◌, ◌<◌, ◌≤◌, length, get_or}
use Rattle.std.specs.Prelude.{drop}
use Rattle.std.proofs.Common.{arith}
use Rattle.std.proofs.lemmas.List.{get_or-take, get_or-drop}
use Rattle.lists.specs.Parts.{part}
use Rattle.lists.specs.PartLaws.{part_length}

pub record CellsListed (cs : List ℕ) : Type 0 where
  pub few : length cs ≤ 1024
  pub cells : (i : ℕ) → i < length cs → get_or cs i 0 < 1024

pub record PartListed (from to : ℕ) (cs : List ℕ) : Type 0 where
  pub order : from ≤ to
  pub within : to ≤ 1024
  pub long : length cs ≡ 1024
  pub cells : (i : ℕ) → from ≤ i → i < to → get_or cs i 0 < 1024

pub record GroupLists (cs offs : List ℕ) (n : ℕ) : Type 0 where
  pub few : n ≤ 1024
  pub parts : (g : ℕ) → g < n → PartListed (get_or offs g 0) (get_or offs (g + 1) 0) cs

-- the cells of a part of a list
pub cells-listed : {from to : ℕ} {cs : List ℕ} → PartListed from to cs → CellsListed (part cs from to)
cells-listed {from} {to} {cs} p =
    record {
      few = omega (arith, part_length cs from to, p.within);
      cells = λ i l.
          let k : i < to - from = omega (arith, part_length cs from to) in
          rw (get_or-take (to - from) (drop from cs) i 0 k, get_or-drop from cs i 0)
          (p.cells (from + i) (omega arith) (omega arith));
    }

unfoldable pub size_in : List ℕ → ℕ → ℕ
size_in offs g = get_or offs (g + 1) 0 - get_or offs g 0

pub record Parted (ids offs : List ℕ) : Type 0 where
  pub few : (c : ℕ) → get_or ids c 0 < 1024
  pub rises : (c : ℕ) → get_or offs (get_or ids c 0) 0 ≤ get_or offs (get_or ids c 0 + 1) 0
  pub first : get_or offs 0 0 ≤ get_or offs 1 0
