-- `borders_right` meets its contract: the loop gathers the tests one by one.
use Rattle.std.proofs.Common.{sym}
use Rattle.lists.specs.TestLaws.{all_none, all-and}
use Rattle.board.specs.Alien.{borders_by}
use Rattle.board.proofs.conditions.borders_right.Goals as goal

pub loop-i-init : goal.loop-i-init
unfolding borders_by
loop-i-init c = sym (all_none _)

pub loop-i-preserved : goal.loop-i-preserved
unfolding borders_by
loop-i-preserved c = all-and c.loop-i.i _ c.loop-i.right _ c.loop-i.invariant c.border_right-right.ensures
