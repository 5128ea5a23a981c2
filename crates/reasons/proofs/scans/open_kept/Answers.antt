-- Each return by the test that led there.
use Rattle.std.proofs.Common.{eq-eqb, ne_eqb}
use Rattle.std.proofs.Math.Bool.{and-true, and-false}
use Rattle.std.proofs.Math.Dec.{eqb}
use Rattle.rules.specs.Groups.{entry}
use Rattle.laws.specs.CodeLaws.{state-open}
use Rattle.reasons.proofs.scans.open_kept.Goals as goal

pub returns-then-open : goal.returns-then-open
unfolding entry
returns-then-open c = rw (state-open, eq-eqb _ _ c.if-open.true, and-true (eqb _ _), c.group_of.ensures)

pub returns-else-open : goal.returns-else-open
returns-else-open c = rw (state-open, ne_eqb _ _ c.if-open.false, and-false (eqb _ _))
