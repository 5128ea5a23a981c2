-- The bytes read lie within the page. What is left of the page falls.
use Rattle.std.proofs.Common.{length, ◌-◌, ◌≤◌}
use Rattle.doublechoco.proofs.read_page.Given as goal

abbrev pub invariant-loop-n : goal.invariant-loop-n
invariant-loop-n g l = l.n ≤ length l.page

abbrev pub decreases-loop-n : goal.decreases-loop-n
decreases-loop-n g l = length l.initial.page - l.n
