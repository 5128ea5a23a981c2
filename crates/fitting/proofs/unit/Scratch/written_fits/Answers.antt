-- Planes and mask answer for every row, the first of which is written at once.
-- whether some connections fit at a cell of one of the adjacent units
use mathlib.Core.Bool.{Bool}
use mathlib.Core.List.{List}
use native.Mathlib.Omega.{arith}
use Rattle.rules.specs.Check.{mates}
use Rattle.rules.specs.Codes.{states_in, unclued}
use Rattle.rules.specs.Page.{Point, Puzzle}
use Rattle.groups.specs.Grouping.{cells_in, starts_in}
use Rattle.planes.specs.Placing.{bare}
use Rattle.planes.specs.Laying.{fits_beside}
use Rattle.fitting.specs.HeldLaws.{held_of, held-sizes, held-answers}
use Rattle.fitting.specs.Fitting.{fits_rows}
use Rattle.fitting.proofs.unit.Scratch.written_fits.Goals.{Start}
use Rattle.fitting.proofs.unit.Scratch.written_fits.Goals as goal

abbrev fits : Start → List Point → Bool
fits s js =
    let page : Puzzle = unclued s.args.h s.args.w s.args.colours.now in
    fits_beside page (states_in s.args.borders.now) (bare js) (cells_in s.args.potential.now)
    (starts_in s.args.potential.now)
    (mates page (states_in s.args.borders.now) s.args.p)

pub turn_row-requires : goal.turn_row-requires
turn_row-requires c = (omega arith, c.requires.1, c.requires.2, omega arith)

pub prepare-requires : goal.prepare-requires
prepare-requires c = (c.requires.0, c.requires.3)

pub some_row_fits-requires : goal.some_row_fits-requires
some_row_fits-requires c =
    let e = c.turn_row.ensures in (
      held-sizes c.prepare.ensures c.requires.0,
      c.requires.1,
      c.requires.2,
      e.0,
      e.1,
    )

pub returns : goal.returns
unfolding fits_rows
returns c =
    let k = c.prepare.ensures in
    let e = c.some_row_fits.ensures in (
      e (fits (goal.at.returns c).Start) (held-answers k c.requires.0),
      held_of k,
    )
