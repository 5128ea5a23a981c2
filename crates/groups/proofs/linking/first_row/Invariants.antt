-- The parents of the first row. The loop has passed c cells, and root is the parent of the last.
use mathlib.Core.Path.{◌≡◌}
use mathlib.Core.Bool.{Bool}
use mathlib.Core.List.{List}
use Prim.Native.Nat.{ℕ, ◌-◌}
use lib.ListN.{get_or}
use Rattle.groups.specs.Forests.{Forest}
use Rattle.groups.specs.Ties.{flag_at, Scanned}
use Rattle.groups.proofs.linking.first_row.Given as goal

abbrev pub invariant-loop-c : goal.invariant-loop-c
invariant-loop-c l =
    (l.root ≡ get_or l.p (l.c - 1) 0) × Forest l.p
    × ((above : ℕ → Bool) (list : List ℕ) → Scanned l.c l.w (flag_at l.lefts) above l.p list 0)
