-- Each return is a case of the definition.
use mathlib.Core.Path.{sym}
use Rattle.rules.specs.Flat.{below_of, right_of}
use Rattle.stuck.specs.PlacedLaws.{border-below, border-right}
use Rattle.stuck.proofs.survivors.border_at.Goals as goal

pub returns-then-below : goal.returns-then-below
unfolding below_of
returns-then-below c = sym (border-below c.requires.1 c.if-below.true)

pub returns-else-below : goal.returns-else-below
unfolding right_of
returns-else-below c = sym (border-right c.requires.1 c.if-below.false)
