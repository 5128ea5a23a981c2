-- The loop goes down, and its word has the borders from x on.
use mathlib.Core.Path.{◌≡◌}
use Prim.Native.Nat.{◌+◌, ◌-◌, ◌≤◌, ◌<◌}
use Rattle.planes.specs.Bits.{row_from}
use Rattle.planes.specs.Planes.{clear_at}
use Rattle.planes.proofs.clear_row.Given as goal

abbrev pub invariant-loop-x : goal.invariant-loop-x
invariant-loop-x l =
    (l.x ≤ l.n)
    × (l.acc ≡ row_from (l.n - l.x) l.x
    (λ i. clear_at l.colours l.borders (l.cell + i) (l.cell + i + l.ahead) (l.border + i)))
    × (l.acc < 4294967296)
