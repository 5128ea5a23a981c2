-- Each return is what the raised place reads there, by PlacingLaws; the products' bounds are those of Counts and Spot.
use Prim.Native.Nat.{◌/◌}
use native.Mathlib.Omega.{arith}
use Rattle.rules.specs.Codes.{states_in}
use Rattle.laws.specs.FlatLaws.{Counts, counts, Spot, spot}
use Rattle.planes.specs.PlacingLaws.{below-reading, right-reading, off-ends, off-rows, off-columns}
use Rattle.planes.specs.PlacingLaws.{lies-below, lies-right}
use Rattle.planes.proofs.connection.read_place.Goals.{In-Some-Some}
use Rattle.planes.proofs.connection.read_place.Goals as goal

-- the page's counts, and those of the cell at the place
at : (c : In-Some-Some) → Counts c.args.h c.args.w
    × Spot c.args.h c.args.w (c.in-Some-Some.py / 2) (c.in-Some-Some.px / 2)
at c =
    let d = c.requires.0.sized in
    let a = c.in-Some-Some.ensures in
    let b = c.in-Some-Some.ensures' in
    (counts d, spot _ _ _ _ (omega arith) (omega arith))

pub returns-in_default : goal.returns-in_default
returns-in_default c =
    off-ends _ _ (off-columns c.args.h c.args.w c.requires.0.sized c.args.y c.args.x (c.in_default.ensures'))

pub returns-in_default-2 : goal.returns-in_default-2
returns-in_default-2 c =
    let s = c.lowered.ensures in
    off-ends _ _ (off-rows c.args.h c.args.w c.requires.0.sized c.args.y c.args.x (rw c.in_default.is-0 at s))

pub returns-then-py-eq1 : goal.returns-then-py-eq1
returns-then-py-eq1 c =
    let a = c.in-Some-Some.ensures in
    let b = c.in-Some-Some.ensures' in
    rw (
      a.0,
      b.0,
      lies-below c.args.h c.args.w c.requires.0.sized c.in-Some-Some.py c.in-Some-Some.px a.1 b.1 c.if-py-eq1.true,
      below-reading c.args.h c.args.w (c.in-Some-Some.py / 2) (c.in-Some-Some.px / 2) c.args.colours.now
          (states_in c.args.borders.now),
    )
    c.read_border.ensures

pub returns : goal.returns
returns c =
    let a = c.in-Some-Some.ensures in
    let b = c.in-Some-Some.ensures' in
    rw (
      a.0,
      b.0,
      lies-right c.args.h c.args.w c.requires.0.sized c.in-Some-Some.py c.in-Some-Some.px a.1 b.1 c.if-py-eq1.false,
      right-reading c.args.h c.args.w (c.in-Some-Some.py / 2) (c.in-Some-Some.px / 2) c.args.colours.now
          (states_in c.args.borders.now) (omega arith) (omega arith),
    )
    c.read_border-2.ensures
