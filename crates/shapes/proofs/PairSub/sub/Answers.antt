-- The differences fit, so they are the coordinates of the shifted place.
use mathlib.Core.Path.{refl}
use borrow.Author.Rules.{rules}
use Rattle.rules.specs.Page.{◌⊕◌, opposite}
use Rattle.laws.specs.PointLaws.{point-eq}
use Rattle.shapes.proofs.PairSub.sub.Goals as goal

pub returns : goal.returns
unfolding ◌⊕◌ opposite
returns c = point-eq refl (search rules) (search rules)
