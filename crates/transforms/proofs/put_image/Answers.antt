-- `transforms::put_image` meets its contract: the cells in order, and after them the connections.
-- the first image is near the page
use mathlib.Core.Path.{ap}
use native.Mathlib.Omega.{arith}
use lib.ListN.{length}
use Rattle.lists.specs.WroteLaws.{wrote-length}
use Rattle.shapes.specs.Pairs.{SmallPair}
use Rattle.shapes.specs.SpotLaws.{near-least, near-small}
use Rattle.shapes.specs.ImageLaws.{jointed}
use Rattle.transforms.specs.ImageLaws.{points-next, cell-count, swept, image-written}
use Rattle.transforms.proofs.put_image.Goals.{After-least-m}
use Rattle.transforms.proofs.put_image.Goals as goal

small : (c : After-least-m) → SmallPair c.least-m.result
small c = near-small c.least-m.result c.least-m.ensures (near-least _ _ c.requires.1.spotted)

pub put_cells-at-requires : goal.put_cells-at-requires
put_cells-at-requires c =
    let u = c.requires.1 in (
      c.requires.0,
      u.sized,
      u.long,
      small (goal.at.put_cells-at-requires c).After-least-m,
      omega (
        arith,
        ap length (swept u c.args.row c.least-m.ensures),
        cell-count u c.args.row,
        u.spotted.most,
        c.requires.3,
      ),
    )

pub put_joints-requires : goal.put_joints-requires
put_joints-requires c =
    let u = c.requires.1 in
    let j = c.requires.2 in
    let p = c.put_cells-at.ensures in (
      c.requires.0,
      jointed u j,
      small (goal.at.put_joints-requires c).After-least-m,
      omega (
        arith,
        points-next p,
        wrote-length p,
        ap length (swept u c.args.row c.least-m.ensures),
        cell-count u c.args.row,
        u.spotted.most,
        j.few,
        c.requires.3,
      ),
    )

pub returns : goal.returns
returns c =
    image-written c.requires.1 c.args.row c.least-m.ensures c.requires.2
    c.put_cells-at.ensures
    c.put_joints.ensures
