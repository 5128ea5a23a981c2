-- `shapes::least` meets its contract. The loop's invariant: the best is the first in order of the images passed.
use mathlib.Core.Path.{◌≡◌}
use Prim.Native.Nat.{◌≤◌}
use Rattle.shapes.specs.Pairs.{point_of}
use Rattle.shapes.specs.Outlines.{rows_in, columns_in, cell_count}
use Rattle.shapes.specs.Spots.{spots, least_image}
use Rattle.shapes.proofs.least.Given as goal

abbrev pub invariant-loop-i : goal.invariant-loop-i
invariant-loop-i l =
    (1 ≤ l.i) × (l.i ≤ cell_count l.outline)
    × (point_of l.best ≡ least_image l.row (spots (rows_in l.outline) (columns_in l.outline) l.i))
