-- `entries_right` meets its contract: the closure is the definition's test.
use Rattle.std.proofs.Common.{◌∙◌, refl, ltb, rules}
use Rattle.lists.specs.TestLaws.{between_first}
use Rattle.board.specs.Alien.{entries_right}
use Rattle.board.proofs.conditions.entries_right.Goals as goal

pub returns : goal.returns
unfolding entries_right
returns c = c.gathered.ensures (λ a. a) (λ x. ltb x c.args.borders) 0 refl (λ a x b p. search rules) ∙ between_first _ _
