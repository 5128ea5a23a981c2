-- The loop's invariant: the blockers beside the groups before this one are written.
use Rattle.lists.specs.Lists.{flat_map}
use Rattle.lists.specs.Parts.{part}
use Rattle.groups.specs.Grouping.{cells_in, starts_in}
use Rattle.groups.specs.Parts.{part_of}
use Rattle.reasons.specs.Memory.{Wrote}
use Rattle.stuck.specs.Survivors.{block_in}
use Rattle.stuck.proofs.survivors.block_mates.Given as goal

abbrev pub invariant-loop-mate : goal.invariant-loop-mate
invariant-loop-mate l =
    Wrote l.initial.memory l.start
    (flat_map
    (λ q. flat_map (block_in l.h l.w l.borders l.rows l.turned l.n)
    (part_of (cells_in l.potential) (starts_in l.potential) q))
    (part l.mates 0 l.mate-index)) l.memory l.at
