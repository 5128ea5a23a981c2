-- The loop's invariant: the connections from j on are no walls.
use mathlib.Core.Path.{◌≡◌}
use Prim.Native.Nat.{◌≤◌}
use Rattle.stuck.specs.Survivors.{back_of}
use Rattle.stuck.proofs.survivors.laid_back.Given as goal

abbrev pub invariant-loop-j : goal.invariant-loop-j
invariant-loop-j l =
    (l.j ≤ l.n) × (back_of l.h l.w l.borders l.turned l.y l.x l.n ≡ back_of l.h l.w l.borders l.turned l.y l.x l.j)
