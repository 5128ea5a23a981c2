-- `clues_fit` meets its contract: the clues from p on fit if those from `at` on do.
use Prim.Native.Nat.{◌-◌}
use Rattle.page.specs.Grammar.{clue, clues_fit}
use Rattle.page.specs.Places.{all_from}
use lib.ListN.{length}
use mathlib.Core.Path.{◌≡◌}
use Rattle.page.proofs.whole.clues_fit.Given as goal

abbrev pub invariant-loop-c : goal.invariant-loop-c
invariant-loop-c l = clues_fit l.h l.w (all_from clue l.s l.at) ≡ clues_fit l.h l.w (all_from clue l.s l.p)

abbrev pub decreases-loop-c : goal.decreases-loop-c
decreases-loop-c l = length l.s - l.p
