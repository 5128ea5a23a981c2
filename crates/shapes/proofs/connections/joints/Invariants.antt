-- `shapes::joints` meets its contract. The loop's invariant: the outline has the connections of the cells passed.
use Prim.Native.Nat.{◌≤◌}
use Rattle.rules.specs.Groups.{entry}
use Rattle.groups.specs.Grouping.{numbers_in}
use Rattle.shapes.specs.Joints.{Joining}
use Rattle.shapes.specs.Outlines.{cell_count}
use Rattle.shapes.proofs.connections.joints.Given as goal

abbrev pub invariant-loop-i : goal.invariant-loop-i
invariant-loop-i l =
    (l.i ≤ cell_count l.initial.outline)
    × Joining l.h l.w (entry (numbers_in l.units)) l.g l.initial.outline l.outline l.k l.i
