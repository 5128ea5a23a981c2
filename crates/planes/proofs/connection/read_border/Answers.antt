-- Each return is one of the laws of `between`.
use Rattle.planes.specs.PlacingLaws.{between_ends, between-wall, between-clear}
use Rattle.planes.proofs.connection.read_border.Goals as goal

pub returns-then-colours-from : goal.returns-then-colours-from
returns-then-colours-from c =
    between_ends c.args.colours.now c.args.borders.now _ _ _ c.requires.3 c.if-colours-from.true

pub returns-then-borders-border-eq1 : goal.returns-then-borders-border-eq1
returns-then-borders-border-eq1 c =
    between-wall c.args.colours.now c.args.borders.now _ _ _ c.requires.3 c.if-colours-from.false
    c.if-borders-border-eq1.true

pub returns-else-borders-border-eq1 : goal.returns-else-borders-border-eq1
returns-else-borders-border-eq1 c =
    between-clear c.args.colours.now c.args.borders.now _ _ _ c.requires.3 c.if-colours-from.false
    c.if-borders-border-eq1.false
