-- Cell by cell.
use Rattle.lists.specs.Lists.{flat_map}
use Rattle.lists.specs.Parts.{part}
use Rattle.rules.specs.Flat.{flat}
use Rattle.rules.specs.Codes.{states_in}
use Rattle.rules.specs.Groups.{entry}
use Rattle.rules.specs.Reasons.{inside_at}
use Rattle.groups.specs.Grouping.{numbers_in}
use Rattle.reasons.specs.Memory.{Wrote}
use Rattle.reasons.proofs.inside.Given as goal

abbrev pub invariant-loop-cell : goal.invariant-loop-cell
invariant-loop-cell l =
    Wrote l.initial.memory l.start
    (flat_map (inside_at (flat l.h l.w) (states_in l.borders) (entry (numbers_in l.grouping)) l.g)
    (part l.cells 0 l.cell-index)) l.memory l.at
