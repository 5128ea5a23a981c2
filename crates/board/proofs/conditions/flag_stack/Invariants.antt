-- The loop's invariant: `once` says whether none of the entries before the index is an earlier one, and exactly they
-- are flagged.
use Rattle.std.proofs.Common.{◌≡◌, ℕ, ◌<◌, false, length, get_or}
use Rattle.board.specs.Alien.{stacked, once_each}
use Rattle.board.proofs.conditions.flag_stack.Given as goal

abbrev pub invariant-loop-entry : goal.invariant-loop-entry
invariant-loop-entry l =
    (l.once ≡ once_each l.stack l.entry-index)
    × (length l.seen ≡ 1984)
    × ((x : ℕ) → x < 1984 → get_or l.seen x false ≡ stacked l.stack l.entry-index x)
