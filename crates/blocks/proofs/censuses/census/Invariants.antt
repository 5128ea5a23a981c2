-- `census` meets its contract: after each turn the parts and the first clue are those of the cells passed.
use mathlib.Core.Path.{◌≡◌}
use Rattle.groups.specs.Grouping.{numbers_in}
use Rattle.blocks.specs.Surveyed.{surveyed}
use Rattle.blocks.proofs.censuses.census.Given as goal

abbrev pub invariant-loop-c : goal.invariant-loop-c
invariant-loop-c l =
    record { zero = l.zero; one = l.one; clue = l.first }
    ≡ surveyed l.colours l.clues (numbers_in l.potential) l.cells l.c-index
