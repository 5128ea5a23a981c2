-- What joins two cells: each return is the definition's case of its kind.
use Rattle.groups.specs.Kinds.{one_colour_by}
use Rattle.groups.specs.KindLaws.{joins-block, joins-unit, joins-potential}
use Rattle.groups.proofs.linking.joins.Goals as goal

pub returns-in-Blocks : goal.returns-in-Blocks
returns-in-Blocks c = rw c.in-Blocks.is (joins-block _ _ _)

pub returns-in-Units : goal.returns-in-Units
unfolding one_colour_by
returns-in-Units c = rw c.in-Units.is (joins-unit _ _ _)

pub returns-in-Potential : goal.returns-in-Potential
unfolding one_colour_by
returns-in-Potential c = rw c.in-Potential.is (joins-potential _ _ _)
