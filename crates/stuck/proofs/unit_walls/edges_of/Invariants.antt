-- The loop's invariant: Edge of each of the groups before i is written.
use mathlib.Core.Path.{◌≡◌}
use Rattle.lists.specs.Lists.{flat_map}
use Rattle.lists.specs.Parts.{part}
use Rattle.groups.specs.Grouping.{numbers_in}
use Rattle.reasons.specs.Arrays.{no_flags, edge_in}
use Rattle.reasons.specs.Memory.{Wrote}
use Rattle.stuck.proofs.unit_walls.edges_of.Given as goal

abbrev pub invariant-loop-mate : goal.invariant-loop-mate
invariant-loop-mate l =
    Wrote l.initial.memory l.start
    (flat_map (edge_in l.h l.w l.colours l.borders (numbers_in l.potential))
    (part l.mates 0 l.mate-index)) l.memory l.at
    × (l.flagged ≡ no_flags)
