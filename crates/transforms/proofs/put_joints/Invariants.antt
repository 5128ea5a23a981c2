-- `transforms::put_joints` meets its contract. The loop's invariant: the connections passed are written, in order.
use Rattle.shapes.specs.Outlines.{down_in, across_in}
use Rattle.shapes.specs.Pairs.{point_of}
use Rattle.shapes.specs.Spots.{spots}
use Rattle.transforms.specs.Transforms.{WrotePoints}
use Rattle.transforms.specs.Box.{moved_back}
use Rattle.transforms.proofs.put_joints.Given as goal

abbrev pub invariant-loop-j : goal.invariant-loop-j
invariant-loop-j l =
    WrotePoints l.initial.memory l.start
    (moved_back l.row (point_of l.m) (spots (down_in l.outline) (across_in l.outline) l.j)) l.memory l.at
