-- The loop's invariant: the answer is that of the first cells from o on.
use mathlib.Core.Path.{sym, ap, ◌∙◌}
use native.Mathlib.Omega.{arith}
use Prim.Native.Nat.{◌+◌, ◌<◌}
use lib.ListN.{length, take, length-take}
use Rattle.std.proofs.Common.{get_or-take}
use Rattle.lists.specs.Lists.{any}
use Rattle.lists.specs.PartLaws.{any-done, any_found, any_next}
use Rattle.groups.specs.Grouping.{cells_in, start_in}
use Rattle.reasons.specs.CellLaws.{cells-reach}
use Rattle.planes.specs.MaskLaws.{listed-cells}
use Rattle.planes.specs.Laying.{fits_among}
use Rattle.fitting.specs.Copies.{soon_in}
use Rattle.fitting.specs.CopyLaws.{part-soon}
use Rattle.planes.specs.MaskLaws.{part-all}
use Rattle.fitting.proofs.copies.copy_fits_soon.Invariants.{fit}
use Rattle.fitting.proofs.copies.copy_fits_soon.Goals as goal

pub cells_of-cells-requires : goal.cells_of-cells-requires
cells_of-cells-requires c = let u = c.requires.3 in (c.requires.2, u.order, u.end)

pub loop-o-init : goal.loop-o-init
unfolding fits_among soon_in
loop-o-init c =
    let a = c.args in
    let q = start_in a.potential.now a.q in
    rw (part-all (take c.min.result c.cells_of-cells.result.now), c.min.ensures, c.cells_of-cells.ensures)
    (ap (any (fit a.h a.w a.colours.now a.borders.now a.units.now a.g))
    (part-soon (cells_in a.potential.now) q (start_in a.potential.now (a.q + 1)) c.requires.3.order
    (cells-reach c.requires.3)))

pub copy_fits-requires : goal.copy_fits-requires
copy_fits-requires c =
    let cells = c.cells_of-cells.result.now in
    let l : c.loop-o.o-index < c.min.result = omega (arith, length-take c.min.result cells) in
    let m : c.loop-o.o-index < length cells = omega (arith, length-take c.min.result cells) in (
      c.requires.0,
      c.requires.1,
      rw (c.from.ensures, get_or-take c.min.result cells c.loop-o.o-index 0 l, c.cells_of-cells.ensures)
          (listed-cells c.requires.3 c.loop-o.o-index (rw c.cells_of-cells.ensures at m)),
    )

pub loop-o-preserved : goal.loop-o-preserved
loop-o-preserved c =
    any_next _ (take c.min.result c.cells_of-cells.result.now) c.loop-o.o-index _ c.loop-o.invariant
    c.loop-o-test.true (omega arith)
    (sym (rw c.from.ensures at c.copy_fits.ensures) ∙ c.if-copy_fits.false)

pub returns-then-copy_fits : goal.returns-then-copy_fits
returns-then-copy_fits c =
    any_found _ (take c.min.result c.cells_of-cells.result.now) c.loop-o.o-index _ c.loop-o.invariant
    c.loop-o-test.true (omega arith)
    (sym (rw c.from.ensures at c.copy_fits.ensures) ∙ c.if-copy_fits.true)

pub returns : goal.returns
returns c =
    any-done _ (take c.min.result c.cells_of-cells.result.now) c.loop-o.o-index _ c.loop-o.invariant
    c.loop-o-test.false
