-- The loop's invariant: the cells of the groups before i are flagged, and no others.
use Rattle.lists.specs.Parts.{part}
use Rattle.groups.specs.Grouping.{cells_in, starts_in}
use Rattle.planes.specs.Masks.{Masked, origins_in}
use Rattle.planes.proofs.draw_mask.Given as goal

abbrev pub invariant-loop-mate : goal.invariant-loop-mate
invariant-loop-mate l =
    Masked l.w (origins_in (cells_in l.potential) (starts_in l.potential) (part l.mates 0 l.mate-index)) l.mask
