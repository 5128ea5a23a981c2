-- The entries that are read are the unit's part and its potential unit.
use mathlib.Core.Path.{sym, ◌∙◌}
use native.Mathlib.Omega.{arith}
use Rattle.rules.specs.Check.{mates}
use Rattle.rules.specs.Codes.{states_in, unclued}
use Rattle.rules.specs.Flat.{flat}
use Rattle.rules.specs.Groups.{entry}
use Rattle.rules.specs.Shapes.{shape_of}
use Rattle.laws.specs.FlatLaws.{counts}
use Rattle.groups.specs.Grouping.{numbers_in, cells_in, starts_in}
use Rattle.adjacent.specs.HomeLaws.{unit-in, head-low, home_of}
use Rattle.fitting.specs.CopyLaws.{soon-turned}
use Rattle.fitting.specs.HeldLaws.{mate-few, mate-cells}
use Rattle.fitting.specs.ReadyLaws.{fits_home, fits-nowhere, single-unit}
use Rattle.fitting.specs.CopyLaws.{group-one}
use Rattle.lists.specs.Lists.{◌∈◌}
use Rattle.adjacent.specs.Homes.{home_in}
use Rattle.fitting.proofs.fits_at.Goals.{In-Some, then-single, else-single}
use Rattle.fitting.proofs.fits_at.Goals as goal

pub home_in-p-requires : goal.home_in-p-requires
home_in-p-requires c =
    let u = unit-in c.requires.0 c.args.u c.requires.1 in (
      u.low,
      omega (arith, u.some, u.end),
      omega (arith, head-low c.requires.0 c.args.u c.requires.1, (counts c.requires.0.drawn.sized).cells),
    )

pub near_mate-requires : goal.near_mate-requires
near_mate-requires c = (rw c.home_in-p.ensures (home_of c.requires.0 c.args.u c.requires.1), c.requires.2)

pub returns-in_default : goal.returns-in_default
returns-in_default c = (
  sym (fits-nowhere c.requires.0 c.args.u c.requires.1 (rw c.home_in-p.ensures at c.in_default.ensures.0)),
  c.near_mate.ensures.1,
  c.requires.3,
)

pub cells_of-requires : goal.cells_of-requires
cells_of-requires c =
    let u = unit-in c.requires.0 c.args.u c.requires.1 in
    (u.low, omega (arith, u.some), u.end)

-- the potential unit that was found is adjacent
mate : (c : In-Some) → c.in-Some.q ∈ mates (unclued c.args.h c.args.w c.args.colours.now)
    (states_in c.args.borders.now) (home_in c.args.units.now c.args.potential.now c.args.u)
mate c = rw c.home_in-p.ensures at c.in-Some.ensures.0

pub copy_fits_soon-requires : goal.copy_fits_soon-requires
copy_fits_soon-requires c =
    let k = home_of c.requires.0 c.args.u c.requires.1 in
    let q = mate (goal.at.copy_fits_soon-requires c).In-Some in
    (c.requires.0.drawn, unit-in c.requires.0 c.args.u c.requires.1, mate-few k q, mate-cells k q)

pub unit_fits-requires : goal.unit_fits-requires
unit_fits-requires c = (
  rw c.home_in-p.ensures (home_of c.requires.0 c.args.u c.requires.1),
  unit-in c.requires.0 c.args.u c.requires.1,
  c.requires.3,
)

-- a unit of one cell fits there, and the unit itself is the first of its transforms
pub returns-then-copy_fits_soon : goal.returns-then-copy_fits_soon
returns-then-copy_fits_soon c =
    let q = mate (goal.at.returns-then-copy_fits_soon c).In-Some in (
      elim c.if-single.branch [
        | then-single w ↦
            c.if-copy_fits_soon.true
            ∙ sym (single-unit c.requires.0 c.args.u c.requires.1
            (group-one c.requires.0.drawn.sized (unit-in c.requires.0 c.args.u c.requires.1)
            (rw c.cells_of.ensures at w.if-single.true)) q)
        | else-single w ↦
            c.if-copy_fits_soon.true
            ∙ sym (sym (fits_home c.requires.0 c.args.u c.requires.1)
            ∙ soon-turned (unclued c.args.h c.args.w c.args.colours.now) (states_in c.args.borders.now)
            (cells_in c.args.potential.now) (starts_in c.args.potential.now)
            (shape_of (flat c.args.h c.args.w) (entry (numbers_in c.args.units.now)) c.args.u) q
            (mate-cells (home_of c.requires.0 c.args.u c.requires.1) q).order
            (sym (w.value-is ∙ w.copy_fits_soon.ensures) ∙ c.if-copy_fits_soon.true))
      ],
      c.near_mate.ensures.1,
      c.requires.3,
    )

pub returns-else-copy_fits_soon : goal.returns-else-copy_fits_soon
returns-else-copy_fits_soon c =
    let e = c.unit_fits.ensures in (
      rw c.home_in-p.ensures at e.0 ∙ fits_home c.requires.0 c.args.u c.requires.1,
      c.near_mate.ensures.1,
      e.1,
    )
