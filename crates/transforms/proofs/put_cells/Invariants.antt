-- `transforms::put_cells` meets its contract. The loop's invariant: the cells among the places passed are written.
use Rattle.rules.specs.Groups.{entry}
use Rattle.groups.specs.Grouping.{numbers_in}
use Rattle.shapes.specs.Pairs.{point_of}
use Rattle.transforms.specs.Transforms.{WrotePoints}
use Rattle.transforms.specs.Box.{sweep}
use Rattle.transforms.proofs.put_cells.Given as goal

abbrev pub invariant-loop-i : goal.invariant-loop-i
invariant-loop-i l =
    WrotePoints l.initial.memory 0 (sweep l.h l.w (entry (numbers_in l.units)) l.g l.row (point_of l.m) l.i)
    l.memory l.at
