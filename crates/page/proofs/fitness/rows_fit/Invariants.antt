-- `rows_fit` meets its contract: the rows from p on are as many as are left, each of w digits, if all rows fit.
use Prim.Native.Nat.{◌-◌}
use Rattle.page.specs.Grammar.{row}
use Rattle.page.specs.Judge.{rows_fit}
use Rattle.page.specs.Places.{all_from}
use lib.ListN.{length}
use mathlib.Core.Path.{◌≡◌}
use Rattle.page.proofs.fitness.rows_fit.Given as goal

abbrev pub invariant-loop-digits : goal.invariant-loop-digits
invariant-loop-digits l = rows_fit l.h l.w (all_from row l.s l.at) ≡ rows_fit l.left l.w (all_from row l.s l.p)

abbrev pub decreases-loop-digits : goal.decreases-loop-digits
decreases-loop-digits l = length l.s - l.p
