-- `colours` meets its contract: the rows are those from the parts' place on.
use Rattle.page.specs.Places.{sheet_at}
use Rattle.page.proofs.colours.Goals as goal

pub returns : goal.returns
unfolding sheet_at
returns c = c.colours.ensures
