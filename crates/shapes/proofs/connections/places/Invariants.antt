-- `shapes::places` meets its contract. The loop's invariant: the entries passed are the rows and columns of their
-- cells.
use mathlib.Core.Path.{◌≡◌}
use Prim.Native.Nat.{ℕ, ◌/◌, ◌%◌, ◌<◌}
use lib.ListN.{length, get_or}
use Rattle.shapes.specs.Outlines.{rows_in, columns_in}
use Rattle.shapes.proofs.connections.places.Given as goal

abbrev pub invariant-loop-i : goal.invariant-loop-i
invariant-loop-i l =
    (length l.outline ≡ 6146)
    × ((j : ℕ) → j < l.i → get_or (rows_in l.outline) j 0 ≡ get_or l.cells j 0 / l.w)
    × ((j : ℕ) → j < l.i → get_or (columns_in l.outline) j 0 ≡ get_or l.cells j 0 % l.w)
