-- The loop's invariant: the unit fits exactly if the cells from c on have clear connections.
use mathlib.Core.Path.{sym, ◌∙◌}
use native.Mathlib.Omega.{arith}
use lib.ListN.{length}
use Rattle.lists.specs.PartLaws.{all-ends, all-next, all_done}
use Rattle.rules.specs.Codes.{states_in}
use Rattle.laws.specs.FlatLaws.{row_of_lem}
use Rattle.fitting.specs.CopyLaws.{shift_of, copied-cells, group-some, group-first, group-low}
use Rattle.planes.specs.MaskLaws.{part-all}
use Rattle.fitting.proofs.copies.copy_fits.Goals.{In-loop-c, After-cell_clear}
use Rattle.fitting.proofs.copies.copy_fits.Goals as goal

pub cells_of-cells-requires : goal.cells_of-cells-requires
cells_of-cells-requires c = let u = c.requires.1 in (u.low, omega (arith, u.some), u.end)

pub bounds-cells-0 : goal.bounds-cells-0
bounds-cells-0 c = rw c.cells_of-cells.ensures (group-some c.requires.0.sized c.requires.1)

pub overflow_sub-y : goal.overflow_sub-y
overflow_sub-y c =
    let z = c.requires.0.sized in
    let e = group-low z c.requires.1 0 (group-some z c.requires.1) in
    let r = row_of_lem c.args.h c.args.w c.from-first.result (rw (c.from-first.ensures, c.cells_of-cells.ensures) e) in
    omega (arith, r.row, z.tall)

pub loop-c-init : goal.loop-c-init
loop-c-init c =
    rw (
      part-all c.cells_of-cells.result.now,
      c.from-first.ensures,
      c.cells_of-cells.ensures,
      group-first c.requires.0.sized c.requires.1,
    )
    (copied-cells c.requires.0.sized c.requires.1 c.args.o c.args.colours.now (states_in c.args.borders.now))

pub cell_clear-requires : goal.cell_clear-requires
cell_clear-requires c =
    let z = c.requires.0.sized in (
      c.requires.0,
      rw (c.from.ensures, c.cells_of-cells.ensures)
          (group-low z c.requires.1 c.loop-c.c-index (rw c.cells_of-cells.ensures at c.loop-c-test.true)),
      rw (c.from-first.ensures, c.cells_of-cells.ensures, group-first z c.requires.1)
          (shift_of z c.requires.1 c.args.o c.requires.2),
    )

pub loop-c-preserved : goal.loop-c-preserved
loop-c-preserved c =
    all-next _ c.cells_of-cells.result.now c.loop-c.c-index (length c.cells_of-cells.result.now) c.loop-c.invariant
    c.loop-c-test.true (omega arith)
    (sym (rw c.from.ensures at c.cell_clear.ensures) ∙ c.if-not-cell_clear.false)

pub returns-then-not-cell_clear : goal.returns-then-not-cell_clear
returns-then-not-cell_clear c =
    all-ends _ c.cells_of-cells.result.now c.loop-c.c-index (length c.cells_of-cells.result.now) c.loop-c.invariant
    c.loop-c-test.true (omega arith)
    (sym (rw c.from.ensures at c.cell_clear.ensures) ∙ c.if-not-cell_clear.true)

pub returns : goal.returns
returns c =
    all_done _ c.cells_of-cells.result.now c.loop-c.c-index (length c.cells_of-cells.result.now) c.loop-c.invariant
    c.loop-c-test.false
