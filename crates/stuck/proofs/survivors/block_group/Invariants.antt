-- The loop's invariant: the blockers at the cells before o are written.
use Rattle.lists.specs.Lists.{flat_map}
use Rattle.lists.specs.Parts.{part}
use Rattle.reasons.specs.Memory.{Wrote}
use Rattle.stuck.specs.Survivors.{block_in}
use Rattle.stuck.proofs.survivors.block_group.Given as goal

abbrev pub invariant-loop-o : goal.invariant-loop-o
invariant-loop-o l =
    Wrote l.initial.memory l.start
    (flat_map (block_in l.h l.w l.borders l.rows l.turned l.n) (part l.cells 0 l.o-index)) l.memory l.at
