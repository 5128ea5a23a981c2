-- The sums fit, so they are the coordinates of the shifted place.
use borrow.Author.Rules.{rules}
use Rattle.rules.specs.Page.{◌⊕◌}
use Rattle.shapes.proofs.PairAdd.add.Goals as goal

pub returns : goal.returns
unfolding ◌⊕◌
returns c = search rules
