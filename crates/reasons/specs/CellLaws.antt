-- A part of a list of cells lies in the list, and each of its cells is on the page.
use Rattle.std.specs.Prelude.{◌≡◌, List, ℕ, ◌+◌, ◌-◌, ◌*◌, ◌≤◌, ◌<◌, length, get_or, drop}
use Rattle.std.proofs.Common.{arith, get_or-take, get_or-drop}
use Rattle.std.proofs.Math.Seq.{take_all}
use Rattle.lists.specs.Parts.{part}
use Rattle.lists.specs.PartLaws.{part_length}
use Rattle.reasons.specs.Arrays.{Cells}

module _ {h w : ℕ} {cells : List ℕ} {from to : ℕ} (p : Cells h w cells from to) where
  pub cells-reach : to ≤ length cells
  cells-reach = omega (arith, p.end, p.long)

  -- each number of the part, by its place there
  pub part-cell : (i : ℕ) → i < length (part cells from to) → get_or (part cells from to) i 0 < h * w
  part-cell i l =
      let m : i < to - from = omega (arith, part_length cells from to) in
      rw (get_or-take (to - from) (drop from cells) i 0 m, get_or-drop from cells i 0) (p.each i m)

  pub cells_at : (i : ℕ) → from ≤ i → i < to → get_or cells i 0 < h * w
  cells_at i a b =
      let e : from + (i - from) ≡ i = omega arith in
      rw e at (p.each (i - from) (omega arith))

-- all the numbers of a list
pub part_whole : (l : List ℕ) (i : ℕ) → length l ≤ i → part l 0 i ≡ l
part_whole l i h = take_all (i - 0) l (omega arith)
