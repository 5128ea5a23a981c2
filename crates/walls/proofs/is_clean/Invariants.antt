-- `is_clean` meets its contract: the borders below, and those on the right row by row.
use Prim.Native.Nat.{ℕ, ◌<◌, ◌+◌, ◌-◌, ◌*◌}
use Rattle.rules.specs.Codes.{states_in}
use Rattle.rules.specs.Groups.{entry}
use Rattle.groups.specs.Grouping.{numbers_in}
use Rattle.walls.specs.Clean.{Apart}
use Rattle.walls.proofs.is_clean.Given as goal

abbrev pub invariant-loop-y : goal.invariant-loop-y
invariant-loop-y l =
    (v : ℕ) → v < l.y
    → Apart (states_in l.borders) (entry (numbers_in l.blocks)) (v * (l.w - 1)) (v * l.w) (v * l.w + 1) (l.w - 1)
