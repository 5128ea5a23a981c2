-- `shapes::within` meets its contract. The loop's invariant: every image passed is a cell of the unit.
use mathlib.Core.Path.{◌≡◌}
use mathlib.Core.Bool.{true}
use Prim.Native.Nat.{◌≤◌}
use Rattle.lists.specs.Tests.{all_below}
use Rattle.rules.specs.Page.{◌⊕◌}
use Rattle.rules.specs.Groups.{entry}
use Rattle.rules.specs.Turns.{apply}
use Rattle.groups.specs.Grouping.{numbers_in}
use Rattle.shapes.specs.Outlines.{cell_count}
use Rattle.shapes.specs.Pairs.{point_of}
use Rattle.shapes.specs.Rows.{turn_at}
use Rattle.shapes.specs.Spots.{cell_spot, has_cell}
use Rattle.shapes.proofs.within.Given as goal

abbrev pub invariant-loop-i : goal.invariant-loop-i
invariant-loop-i l =
    (l.i ≤ cell_count l.outline)
    × (all_below l.i
    (λ j. has_cell l.h l.w (entry (numbers_in l.units)) l.g
    (apply (turn_at l.row) (cell_spot l.outline j) ⊕ point_of l.v))
    ≡ true)
