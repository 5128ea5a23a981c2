-- Cell by cell.
use Rattle.std.proofs.Common.{ℕ, List, ◌+◌, arith}
use Rattle.rules.specs.declared.Literal.{Literal}
use Rattle.rules.specs.Flat.{flat}
use Rattle.rules.specs.Codes.{states_in}
use Rattle.rules.specs.Groups.{entry}
use Rattle.rules.specs.Reasons.{inside_at}
use Rattle.groups.specs.Grouping.{numbers_in, cells_in, start_in}
use Rattle.reasons.specs.Arrays.{Cells}
use Rattle.reasons.specs.CellLaws.{part-cell, part_whole}
use Rattle.reasons.specs.ScanLaws.{part-cells, inside-part}
use Rattle.reasons.proofs.MemoryLaws.{write-none, write-more}
use Rattle.reasons.proofs.inside.Goals.{Start}
use Rattle.reasons.proofs.inside.Goals as goal

abbrev at : Start → ℕ → List Literal
at s = let a = s.args in inside_at (flat a.h a.w) (states_in a.borders.now) (entry (numbers_in a.grouping.now)) a.g

listed : (s : Start) → let a = s.args in
    Cells a.h a.w (cells_in a.grouping.now) (start_in a.grouping.now a.g) (start_in a.grouping.now (a.g + 1))
listed s = part-cells s.requires.2.is

pub cells_of-cells-requires : goal.cells_of-cells-requires
cells_of-cells-requires c = (c.requires.2.few, c.requires.2.is.order, c.requires.2.is.end)

pub loop-cell-init : goal.loop-cell-init
loop-cell-init c = write-none (at (goal.at.loop-cell-init c).Start) c.cells_of-cells.result.now 0 c.requires.3

pub open_cell-at-requires : goal.open_cell-at-requires
open_cell-at-requires c = (
  c.requires.0,
  record { borders = c.requires.1; numbers = c.requires.2.numbers },
  rw (c.from-c.ensures, c.cells_of-cells.ensures)
      (part-cell (listed (goal.at.open_cell-at-requires c).Start) c.loop-cell.cell-index
      (rw c.cells_of-cells.ensures at c.loop-cell-test.true)),
  c.loop-cell.invariant.spare,
)

pub loop-cell-preserved : goal.loop-cell-preserved
loop-cell-preserved c =
    write-more (at (goal.at.loop-cell-preserved c).Start) c.cells_of-cells.result.now 0 c.loop-cell.cell-index
    (omega arith) c.loop-cell.invariant c.loop-cell-test.true (rw c.from-c.ensures at c.open_cell-at.ensures)

pub shape_of-memory : goal.shape_of-memory
shape_of-memory c = c.loop-cell.invariant.long

pub returns : goal.returns
returns c =
    rw (inside-part c.args.borders.now c.requires.2.is, ← c.cells_of-cells.ensures)
    (rw (part_whole c.cells_of-cells.result.now c.loop-cell.cell-index c.loop-cell-test.false) at
    c.loop-cell.invariant)
