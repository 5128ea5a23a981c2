-- One direction after another.
use Rattle.lists.specs.UpTo.{up_to}
use Rattle.groups.specs.Grouping.{numbers_in}
use Rattle.reasons.specs.Memory.{Wrote}
use Rattle.reasons.specs.Arrays.{direction_at, scan_to}
use Rattle.reasons.proofs.scans.wall_cell.Given as goal

abbrev pub invariant-loop-direction : goal.invariant-loop-direction
invariant-loop-direction l =
    Wrote l.initial.memory l.from
    (up_to (λ i. scan_to l.h l.w l.colours l.borders (numbers_in l.grouping) l.same l.flagged l.c (direction_at i))
    l.direction-index) l.memory l.at
