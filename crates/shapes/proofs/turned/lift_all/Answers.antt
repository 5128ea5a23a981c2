-- The loop's invariant: the coordinates before i are stored, and nothing outside their section.
use mathlib.Core.Path.{◌≡◌}
use Prim.Native.Nat.{ℕ, ◌+◌, ◌≤◌, ◌<◌}
use native.Mathlib.Omega.{arith}
use lib.ListN.{get_or}
use Rattle.lists.specs.Sections.{section}
use Rattle.lists.specs.SectionLaws.{section-at, section-set, section-length, only_set}
use Rattle.lists.specs.TableLaws.{stored_more}
use Rattle.shapes.specs.Raising.{lift_of}
use Rattle.shapes.proofs.turned.lift_all.Goals.{After-joint_count-n}
use Rattle.shapes.proofs.turned.lift_all.Goals as goal

-- the count of the connections, read before the loop
few : (a : After-joint_count-n) → a.joint_count-n.result ≤ 2048
few a = rw a.joint_count-n.ensures a.requires.2

-- the coordinate that is read
read_is : (l : After-joint_count-n) (i : ℕ) → i < l.joint_count-n.result
    → get_or l.args.outline.now (l.args.from + i) 0
    ≡ get_or (section l.args.from 2048 l.args.outline.now) i 0
read_is l i h = section-at l.args.from 2048 l.args.outline.now i (omega (arith, few l))

pub lift-requires : goal.lift-requires
lift-requires c =
    let i = c.loop-i.i in (
      rw (read_is (goal.at.lift-requires c).After-joint_count-n i c.loop-i-test.true)
          (c.requires.4 i (omega (arith, c.joint_count-n.ensures))),
      c.requires.3,
    )

pub loop-i-preserved : goal.loop-i-preserved
loop-i-preserved c =
    let l = c.loop-i in
    let i = l.i in
    let to = c.args.to in
    let t = l.turned in
    let v = c.lift.result in
    let low : i < 2048 = omega (arith, few (goal.at.loop-i-preserved c).After-joint_count-n) in (
      omega (arith, c.joint_count-n.ensures),
      only_set l.invariant.1 (to + i) v (omega arith) (omega arith),
      rw (section-set to 2048 t i v low)
          (stored_more (λ j. lift_of c.args.minus c.args.base
          (get_or (section c.args.from 2048 c.args.outline.now) j 0)) 0 v (section to 2048 t) i
          (omega (arith, section-length to 2048 t (omega (arith, l.invariant.1.long, c.requires.5, c.requires.1))))
          (rw (← read_is (goal.at.loop-i-preserved c).After-joint_count-n i c.loop-i-test.true) c.lift.ensures)
          l.invariant.2),
    )
