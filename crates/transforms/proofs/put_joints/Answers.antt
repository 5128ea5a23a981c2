-- `transforms::put_joints` meets its contract. The loop's invariant: the connections passed are written, in order.
use mathlib.Core.Path.{◌≡◌}
use native.Mathlib.Omega.{arith}
use Rattle.lists.specs.WroteLaws.{wrote-length}
use Rattle.shapes.specs.Outlines.{down_in, across_in, joint_count}
use Rattle.transforms.specs.ImageLaws.{moved-start, moved-step, moved-room}
use Rattle.transforms.proofs.put_joints.Goals as goal

pub loop-j-init : goal.loop-j-init
loop-j-init c = let o = c.args.outline.now in moved-start _ _ (down_in o) (across_in o) _ _

pub joint-requires : goal.joint-requires
joint-requires c = (
  c.requires.0,
  c.requires.1.each c.loop-j.j (omega (arith, c.joint_count-j-end.ensures)),
  c.requires.2,
)

pub put-at-requires : goal.put-at-requires
put-at-requires c =
    let o = c.args.outline.now in
    let l = c.loop-j in
    moved-room _ _ (down_in o) (across_in o) l.j (joint_count o) (omega (arith, c.joint_count-j-end.ensures))
    l.invariant
    c.requires.3

pub loop-j-preserved : goal.loop-j-preserved
loop-j-preserved c =
    let o = c.args.outline.now in
    let l = c.loop-j in
    moved-step _ _ (down_in o) (across_in o) l.j l.invariant c.joint.ensures c.put-at.ensures

pub shape_of-memory : goal.shape_of-memory
shape_of-memory c = wrote-length c.loop-j.invariant

pub returns : goal.returns
returns c =
    let o = c.args.outline.now in
    let e : c.loop-j.j ≡ joint_count o = omega (arith, c.joint_count-j-end.ensures) in
    rw e at c.loop-j.invariant
