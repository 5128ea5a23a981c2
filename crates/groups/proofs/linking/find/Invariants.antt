-- The root of a cell. Each turn goes to a cell of the same root, no later; the measure is the cell's number.
use mathlib.Core.Path.{◌≡◌}
use mathlib.Core.List.{List}
use Prim.Native.Nat.{ℕ, ◌≤◌, ◌<◌}
use lib.ListN.{get_or}
use Rattle.groups.specs.Forests.{Rep}
use Rattle.groups.proofs.linking.find.Given as goal

abbrev pub invariant-loop-x : goal.invariant-loop-x
invariant-loop-x l = (l.x ≤ l.a) × ((n : ℕ) (L : List ℕ) → l.a < n → Rep n l.p L → get_or L l.x 0 ≡ get_or L l.a 0)

abbrev pub decreases-loop-x : goal.decreases-loop-x
decreases-loop-x l = l.x
