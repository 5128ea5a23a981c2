-- `clues` meets its contract: the clues from p on are still to be stored.
use Prim.Native.Nat.{◌-◌}
use Rattle.page.specs.Grammar.{clue}
use Rattle.page.specs.Judge.{placed}
use Rattle.page.specs.Places.{all_from}
use lib.IntN.{negsuc}
use lib.ListN.{length, replicate}
use mathlib.Core.Path.{◌≡◌}
use Rattle.page.proofs.filling.clues.Given as goal

abbrev pub invariant-loop-c : goal.invariant-loop-c
invariant-loop-c l =
    (length l.out ≡ 1024)
    × (placed l.w (replicate 1024 (negsuc 0)) (all_from clue l.s l.at) ≡ placed l.w l.out (all_from clue l.s l.p))

abbrev pub decreases-loop-c : goal.decreases-loop-c
decreases-loop-c l = length l.s - l.p
