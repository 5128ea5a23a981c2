-- The loop's invariant: the blockers of the images by the listed rows passed are written.
use mathlib.Core.Path.{◌≡◌}
use lib.ListN.{length, get_or}
use Rattle.lists.specs.UpTo.{up_to}
use Rattle.rules.specs.Codes.{states_in, unclued}
use Rattle.groups.specs.Grouping.{cells_in, starts_in}
use Rattle.reasons.specs.Memory.{Wrote}
use Rattle.shapes.specs.Spots.{cell_spots, joint_spots}
use Rattle.adjacent.specs.Mates.{mates_in}
use Rattle.stuck.specs.Writing.{blocks_by}
use Rattle.stuck.proofs.block_rows.Given as goal

abbrev pub invariant-loop-row : goal.invariant-loop-row
invariant-loop-row l =
    (length l.turned ≡ 4096) × (length l.left ≡ 32) × Wrote l.initial.memory 0
    (up_to (λ i. blocks_by (unclued l.h l.w l.colours) (states_in l.borders) (cells_in l.potential)
    (starts_in l.potential)
    (mates_in l.mates)
    (cell_spots l.outline) (joint_spots l.outline) (get_or l.listed i 0)) l.row-index) l.memory l.at
