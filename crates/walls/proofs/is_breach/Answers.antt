-- Each return by the test that led there.
use Rattle.std.proofs.Common.{eq-eqb, ne_eqb}
use Rattle.rules.specs.Groups.{entry}
use Rattle.laws.specs.CodeLaws.{state-wall}
use Rattle.walls.specs.Breaches.{is_breach}
use Rattle.walls.proofs.is_breach.Goals as goal

pub returns-then-borders-n-eq1 : goal.returns-then-borders-n-eq1
unfolding is_breach entry
returns-then-borders-n-eq1 c =
    rw (state-wall, eq-eqb _ _ c.if-borders-n-eq1.true, c.group_of.ensures, c.group_of-then-borders-n-eq1.ensures)

pub returns-else-borders-n-eq1 : goal.returns-else-borders-n-eq1
unfolding is_breach
returns-else-borders-n-eq1 c = rw (state-wall, ne_eqb _ _ c.if-borders-n-eq1.false)
