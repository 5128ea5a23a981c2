-- `count_hits` meets its contract: as long as none is counted, the borders passed are no such walls.
use mathlib.Core.Path.{◌≡◌}
use Prim.Native.Nat.{◌≤◌}
use Rattle.rules.specs.Codes.{states_in}
use Rattle.rules.specs.Groups.{entry}
use Rattle.groups.specs.Grouping.{numbers_in}
use Rattle.walls.specs.Clean.{Apart}
use Rattle.walls.proofs.count_hits.Given as goal

abbrev pub invariant-loop-i : goal.invariant-loop-i
invariant-loop-i l =
    (l.hits ≤ l.i)
    × (l.hits ≡ 0 → Apart (states_in l.borders) (entry (numbers_in l.blocks)) l.at l.c l.d l.i)
