-- Blockers, Inside and walls, one after another; what the arrays give is the reason of the unit.
use Rattle.rules.specs.Flat.{flat}
use Rattle.rules.specs.Groups.{entry}
use Rattle.rules.specs.Shapes.{shape_of}
use Rattle.groups.specs.Grouping.{numbers_in}
use Rattle.shapes.specs.ImageLaws.{jointed}
use Rattle.shapes.specs.ListingLaws.{rows-listed}
use Rattle.stuck.specs.ReasonLaws.{own, beside, mated, reason-written}
use Rattle.stuck.proofs.write_unit.Goals as goal

pub block_rows-blocked-requires : goal.block_rows-blocked-requires
block_rows-blocked-requires c =
    let a = c.requires.0 in
    let b = c.requires.1 in (
      rw b.rows (rows-listed (shape_of (flat c.args.h c.args.w) (entry (numbers_in c.args.units.now)) c.args.u)),
      a.drawn,
      b.cells.spotted,
      jointed b.cells b.connections,
      beside a,
      c.requires.2,
    )

pub walls_of-requires : goal.walls_of-requires
walls_of-requires c =
    let a = c.requires.0 in (
      a.drawn.sized,
      a.borders,
      a.colours,
      mated a,
      own a,
      c.inside-inner.ensures.spare,
    )

pub returns : goal.returns
returns c =
    λ k. reason-written c.requires.0 c.requires.1 k c.block_rows-blocked.ensures c.inside-inner.ensures
    c.walls_of.ensures
