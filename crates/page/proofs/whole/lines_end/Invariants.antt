-- `lines_end` meets its contract: what is left after the lines from p on is what is left after those from `at` on.
use Prim.Native.Nat.{◌-◌}
use Rattle.page.specs.Places.{end_of}
use lib.ListN.{length}
use mathlib.Core.Path.{◌≡◌}
use Rattle.page.proofs.whole.lines_end.Given as goal

abbrev pub invariant-loop-next : goal.invariant-loop-next
invariant-loop-next l = end_of l.line l.s l.at ≡ end_of l.line l.s l.p

abbrev pub decreases-loop-next : goal.decreases-loop-next
decreases-loop-next l = length l.s - l.p
