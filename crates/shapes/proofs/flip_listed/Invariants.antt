-- The loop's invariant: no reflection before the row leaves the shape as it is.
use mathlib.Core.Path.{◌≡◌}
use mathlib.Core.Bool.{false}
use Prim.Native.Nat.{ℕ, ◌≤◌, ◌<◌}
use Rattle.rules.specs.Flat.{flat}
use Rattle.rules.specs.Groups.{entry}
use Rattle.rules.specs.Shapes.{shape_of}
use Rattle.groups.specs.Grouping.{numbers_in}
use Rattle.shapes.specs.Rows.{fixes}
use Rattle.shapes.proofs.flip_listed.Given as goal

abbrev pub invariant-loop-row : goal.invariant-loop-row
invariant-loop-row l =
    (r : ℕ) → 4 ≤ r → r < l.row → fixes (shape_of (flat l.h l.w) (entry (numbers_in l.units)) l.g) r ≡ false
