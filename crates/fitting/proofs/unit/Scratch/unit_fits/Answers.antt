-- The unit's cells and connections are written, and tried; the eight rows answer for the listed transforms.
use native.Mathlib.Omega.{arith}
use mathlib.Core.Path.{◌∙◌}
use Rattle.rules.specs.Check.{mates}
use Rattle.rules.specs.Codes.{states_in, unclued}
use Rattle.groups.specs.Grouping.{cells_in, starts_in}
use Rattle.shapes.specs.ImageLaws.{jointed}
use Rattle.adjacent.specs.HomeLaws.{unit-part, unit-placed}
use Rattle.fitting.specs.FitLaws.{rows-turned}
use Rattle.fitting.proofs.unit.Scratch.unit_fits.Goals as goal

pub places-requires : goal.places-requires
places-requires c = (unit-part c.requires.0.drawn.sized c.requires.1, omega arith)

pub joints-requires : goal.joints-requires
joints-requires c =
    let p = c.places.ensures in
    unit-placed c.requires.0.drawn.sized c.requires.1 p.0 p.1

pub written_fits-requires : goal.written_fits-requires
written_fits-requires c =
    let j = c.joints.ensures in
    (c.requires.0, j.0.spotted, jointed j.0 j.1, c.requires.2)

pub returns : goal.returns
returns c =
    let j = c.joints.ensures in
    let page = unclued c.args.h c.args.w c.args.colours.now in
    let states = states_in c.args.borders.now in
    let v = c.written_fits.ensures in (
      v.0
          ∙ rows-turned page states (cells_in c.args.potential.now) (starts_in c.args.potential.now)
          (mates page states c.args.p) j.0 j.1,
      v.1,
    )
