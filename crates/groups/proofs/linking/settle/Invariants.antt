-- The cells of the list are joined to those left of them. The loop has passed some of them.
use mathlib.Core.List.{List}
use Prim.Native.Nat.{ℕ, ◌≤◌, ◌<◌}
use lib.ListN.{get_or}
use Rattle.rules.specs.Groups.{entry}
use Rattle.groups.specs.Forests.{Forest, Rep}
use Rattle.groups.specs.Ties.{joined}
use Rattle.groups.proofs.linking.settle.Given as goal

abbrev pub invariant-loop-cell : goal.invariant-loop-cell
invariant-loop-cell l =
    Forest l.p
    × ((n : ℕ) (L : List ℕ) → n ≤ 1024 → ((j : ℕ) → j < l.k → get_or l.list j 0 < n)
    → Rep n l.initial.p L
    → Rep n l.p (joined L (entry l.list) l.cell-index))
