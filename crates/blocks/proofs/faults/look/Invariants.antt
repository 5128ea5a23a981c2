-- `look` meets its contract: after each turn the cells passed were seen to agree, so that the first fault of the whole
-- list is that of the cell where the look stops.
use Rattle.std.specs.Prelude.{map}
use Rattle.groups.specs.Grouping.{numbers_in}
use Rattle.blocks.specs.Looked.{kept_of, CellsLooked}
use Rattle.blocks.proofs.faults.look.Given as goal

abbrev pub invariant-loop-c : goal.invariant-loop-c
invariant-loop-c l =
    CellsLooked l.colours l.clues (numbers_in l.potential) l.cells l.c-index
    (map kept_of l.own) l.first l.ones
