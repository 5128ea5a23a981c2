-- `shapes::join` meets its contract: each answer is a case of the definition.
use Rattle.groups.specs.Grouping.{numbers_in}
use Rattle.shapes.specs.JointLaws.{join-yes, join-no}
use Rattle.shapes.proofs.connections.join.Goals as goal

pub returns-then-group_of-g : goal.returns-then-group_of-g
returns-then-group_of-g c =
    rw c.in-Some.is
    (join-yes c.args.outline.now c.args.k (numbers_in c.args.units.now) c.args.g c.args.y c.args.x c.in-Some.c
    c.requires.2 c.group_of.ensures c.if-group_of-g.true)

pub returns-else-group_of-g : goal.returns-else-group_of-g
returns-else-group_of-g c =
    rw c.in-Some.is
    (join-no c.args.outline.now c.args.k (numbers_in c.args.units.now) c.args.g c.args.y c.args.x c.in-Some.c
    c.group_of.ensures c.if-group_of-g.false)
