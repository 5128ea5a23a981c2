-- `clue_again` meets its contract: the clues from p on name the cell if those from `at` on do.
use Prim.Native.Nat.{◌-◌}
use Rattle.lists.specs.Lists.{any}
use Rattle.page.specs.Grammar.{clue, same_cell}
use Rattle.page.specs.Places.{all_from}
use lib.ListN.{length}
use mathlib.Core.Path.{◌≡◌}
use Rattle.page.proofs.whole.clue_again.Given as goal

abbrev pub invariant-loop-d : goal.invariant-loop-d
invariant-loop-d l = any (same_cell l.c) (all_from clue l.s l.at) ≡ any (same_cell l.c) (all_from clue l.s l.p)

abbrev pub decreases-loop-d : goal.decreases-loop-d
decreases-loop-d l = length l.s - l.p
