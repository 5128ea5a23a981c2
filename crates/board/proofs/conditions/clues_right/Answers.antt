-- `clues_right` meets its contract: the closure is the definition's test.
use Rattle.std.proofs.Common.{◌∙◌, refl, pos, rules}
use Rattle.lists.specs.TestLaws.{between_first}
use Rattle.board.specs.Alien.{clue_right, clues_right}
use Rattle.board.proofs.conditions.clues_right.Goals as goal

pub returns : goal.returns
unfolding clues_right
returns c = c.gathered.ensures (λ a. a) clue_right (pos 0) refl (λ a x b p. search rules) ∙ between_first _ _
