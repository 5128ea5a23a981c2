-- Cell by cell.
use Rattle.lists.specs.Lists.{flat_map}
use Rattle.lists.specs.Parts.{part}
use Rattle.groups.specs.Grouping.{numbers_in}
use Rattle.reasons.specs.Memory.{Wrote}
use Rattle.reasons.specs.Arrays.{scan_at}
use Rattle.reasons.proofs.scans.scan_walls.Given as goal

abbrev pub invariant-loop-cell : goal.invariant-loop-cell
invariant-loop-cell l =
    Wrote l.initial.memory l.start
    (flat_map (scan_at l.h l.w l.colours l.borders (numbers_in l.grouping) l.same l.flagged)
    (part l.cells 0 l.cell-index)) l.memory l.at
