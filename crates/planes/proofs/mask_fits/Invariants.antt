-- The loop's invariant: no origin of the rows before y fits.
use mathlib.Core.Path.{◌≡◌}
use mathlib.Core.Bool.{false}
use Prim.Native.Nat.{◌≤◌}
use lib.ListN.{get_or}
use Rattle.lists.specs.Tests.{any_below}
use Rattle.planes.specs.Masks.{line_fits}
use Rattle.planes.proofs.mask_fits.Given as goal

abbrev pub invariant-loop-y : goal.invariant-loop-y
invariant-loop-y l = (l.y ≤ l.h) × (any_below l.y (λ i. line_fits l.planes i l.turned l.n (get_or l.mask i 0)) ≡ false)
