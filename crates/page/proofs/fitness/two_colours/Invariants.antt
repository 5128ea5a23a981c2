-- `two_colours` meets its contract: the rows from p on have two colours if those from `at` on do.
use Prim.Native.Nat.{◌-◌}
use Rattle.page.specs.Grammar.{row}
use Rattle.page.specs.Judge.{two_colours}
use Rattle.page.specs.Places.{all_from}
use lib.ListN.{length}
use mathlib.Core.Path.{◌≡◌}
use Rattle.page.proofs.fitness.two_colours.Given as goal

abbrev pub invariant-loop-digits : goal.invariant-loop-digits
invariant-loop-digits l = two_colours (all_from row l.s l.at) ≡ two_colours (all_from row l.s l.p)

abbrev pub decreases-loop-digits : goal.decreases-loop-digits
decreases-loop-digits l = length l.s - l.p
