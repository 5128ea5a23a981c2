-- `shapes::within` meets its contract. The loop's invariant: every image passed is a cell of the unit.
use mathlib.Core.Path.{◌≡◌, sym, ap, ◌∙◌}
use Prim.Native.Nat.{◌<◌}
use native.Mathlib.Omega.{arith}
use Rattle.lists.specs.TestLaws.{all_none, all_more, all_end}
use Rattle.rules.specs.Turns.{apply}
use Rattle.groups.specs.Grouping.{numbers_in}
use Rattle.shapes.specs.Outlines.{cell_count}
use Rattle.shapes.specs.Pairs.{point_of}
use Rattle.shapes.specs.PairLaws.{turns-read}
use Rattle.shapes.specs.Rows.{turn_at}
use Rattle.shapes.specs.Spots.{cell_spot}
use Rattle.shapes.specs.SpotLaws.{near-image, near-small}
use Rattle.shapes.specs.UnitLaws.{landed, within-fails, within_all}
use Rattle.shapes.proofs.within.Goals.{After-moved}
use Rattle.shapes.proofs.within.Goals as goal

pub loop-i-init : goal.loop-i-init
loop-i-init c = (omega arith, all_none _)

-- the image of the cell
image-is : (c : After-moved) → point_of c.moved.result
    ≡ apply (turn_at c.args.row)
    (cell_spot c.args.outline.now c.loop-i.i)
image-is c =
    ap point_of c.moved.ensures ∙ turns-read c.args.row c.signs_at-s.ensures _ _

pub lands-requires : goal.lands-requires
lands-requires c =
    let i = c.loop-i.i in
    let l : i < cell_count c.args.outline.now =
    omega (arith, c.cell_count-n.ensures) in
    let u = c.requires.2.spotted in (
      c.requires.2.sized,
      c.requires.2.long,
      near-small c.moved.result (image-is c)
          (near-image c.args.row _ _ (u.down i l) (u.across i l)),
      c.requires.1,
    )

pub loop-i-preserved : goal.loop-i-preserved
loop-i-preserved c =
    let l = c.loop-i in (
      omega (arith, c.cell_count-n.ensures),
      all_more l.i _ l.invariant.1
          (landed _ _ _ _ (point_of c.moved.result) _ _ c.lands.ensures
          (image-is (goal.at.loop-i-preserved c).After-moved) c.if-not-lands.false),
    )

pub returns-then-not-lands : goal.returns-then-not-lands
returns-then-not-lands c =
    sym (within-fails _ _ (numbers_in c.args.units.now) _ c.args.outline.now _ _
    c.loop-i.i (omega (arith, c.cell_count-n.ensures))
    (landed _ _ _ _ (point_of c.moved.result) _ _ c.lands.ensures
    (image-is (goal.at.returns-then-not-lands c).After-moved) c.if-not-lands.true))

pub returns : goal.returns
returns c =
    sym (within_all _ _ (numbers_in c.args.units.now) _ c.args.outline.now _ _
    (all_end c.loop-i.i _ _ c.loop-i.invariant.0 (omega (arith, c.cell_count-n.ensures))
    c.loop-i.invariant.1))
