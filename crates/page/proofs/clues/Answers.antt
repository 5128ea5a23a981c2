-- `clues` meets its contract: the clues are those from the parts' place on.
use Rattle.page.specs.Judge.{clue_array}
use Rattle.page.specs.Places.{sheet_at}
use borrow.Author.Tests.{le-leb, lt-leb}
use Rattle.page.proofs.clues.Goals as goal

pub returns-then-p-le-SIDE_LIMIT : goal.returns-then-p-le-SIDE_LIMIT
unfolding sheet_at clue_array
returns-then-p-le-SIDE_LIMIT c = rw (le-leb _ _ c.if-p-le-SIDE_LIMIT.true) c.clues.ensures

pub returns-else-p-le-SIDE_LIMIT : goal.returns-else-p-le-SIDE_LIMIT
unfolding sheet_at clue_array
returns-else-p-le-SIDE_LIMIT c = rw (lt-leb _ _ c.if-p-le-SIDE_LIMIT.false)
