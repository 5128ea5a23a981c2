-- The parents of the later rows. The loop has passed c cells; root is the parent of the last, and the list has k cells.
use mathlib.Core.Path.{◌≡◌}
use Prim.Native.Nat.{◌-◌, ◌≤◌}
use lib.ListN.{get_or}
use Rattle.groups.specs.Forests.{Forest}
use Rattle.groups.specs.Arrays.{Blank}
use Rattle.groups.specs.Ties.{flag_at, Scanned}
use Rattle.groups.proofs.linking.later_rows.Given as goal

abbrev pub invariant-loop-c : goal.invariant-loop-c
invariant-loop-c l =
    (l.k ≤ l.c) × (l.root ≡ get_or l.p (l.c - 1) 0) × Forest l.p × Blank 1024 l.n l.list
    × Scanned l.c l.w (flag_at l.lefts) (flag_at l.aboves) l.p l.list l.k
