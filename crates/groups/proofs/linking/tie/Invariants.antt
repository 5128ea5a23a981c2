-- Whether the borders join their cells. The loop has passed i borders.
use mathlib.Core.Path.{◌≡◌}
use mathlib.Core.Bool.{false}
use Prim.Native.Nat.{ℕ, ◌<◌}
use lib.ListN.{get_or}
use Rattle.groups.specs.Kinds.{joins_by}
use Rattle.groups.proofs.linking.tie.Given as goal

abbrev pub invariant-loop-i : goal.invariant-loop-i
invariant-loop-i l =
    (k : ℕ) → k < l.i → get_or l.flags k false
    ≡ joins_by l.kind (get_or l.borders k 0) (get_or l.firsts k 0) (get_or l.seconds k 0)
