-- `shapes::joints_at` meets its contract: the two neighbours are on the page, and their connections come one after the
-- other.
use mathlib.Core.Path.{◌∙◌}
use Prim.Native.Nat.{◌+◌, ◌*◌}
use native.Mathlib.Omega.{arith}
use Rattle.rules.specs.Groups.{entry}
use Rattle.groups.specs.Grouping.{numbers_in}
use Rattle.shapes.specs.JointLaws.{cell_room, grown-count, joint-one, joints-are, some-room}
use Rattle.shapes.specs.Joints.{joined_to}
use Rattle.shapes.proofs.connections.joints_at.Goals as goal

pub join-next-requires : goal.join-next-requires
join-next-requires c =
    let r = c.requires.4 in (
      c.requires.1,
      some-room _ _ c.then_some-below.ensures (cell_room c.requires.0 c.requires.2 c.requires.3).1,
      record { long = r.long; space = omega (arith, r.space) },
    )

pub join-requires : goal.join-requires
join-requires c =
    let j = c.join-next.ensures in
    let number = entry (numbers_in c.args.units.now) in (
      c.requires.1,
      some-room _ _ c.then_some-right.ensures (cell_room c.requires.0 c.requires.2 c.requires.3).2,
      record {
        long = j.only.long ∙ c.requires.4.long;
        space =
            omega (
              arith,
              c.requires.4.space,
              grown-count j,
              joint-one (joined_to number c.args.g c.then_some-below.result) (2 * c.args.y + 1) (2 * c.args.x),
            );
      },
    )

pub returns : goal.returns
returns c =
    joints-are c.args.h c.args.w (entry (numbers_in c.args.units.now)) c.args.g c.args.y
    c.args.x c.requires.3 c.then_some-below.ensures c.then_some-right.ensures c.join-next.ensures c.join.ensures
