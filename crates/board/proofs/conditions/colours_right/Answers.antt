-- `colours_right` meets its contract: the closure is the definition's test.
use Rattle.std.proofs.Common.{◌∙◌, refl, leb, rules}
use Rattle.lists.specs.TestLaws.{between_first}
use Rattle.board.specs.Alien.{colours_right}
use Rattle.board.proofs.conditions.colours_right.Goals as goal

pub returns : goal.returns
unfolding colours_right
returns c = c.gathered.ensures (λ a. a) (λ x. leb x 1) 0 refl (λ a x b p. search rules) ∙ between_first _ _
