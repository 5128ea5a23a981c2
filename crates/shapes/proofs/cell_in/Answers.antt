-- `shapes::cell_in` meets its contract: each test is one of the definition.
use mathlib.Core.Path.{sym}
use native.Mathlib.Omega.{arith}
use Rattle.std.proofs.lemmas.Grind.{common_steps}
use Rattle.rules.specs.Groups.{entry}
use Rattle.shapes.specs.UnitLaws.{in-below, in-beside, in-page}
use Rattle.shapes.proofs.cell_in.Goals as goal

pub returns-then-x-w : goal.returns-then-x-w
unfolding entry
returns-then-x-w c =
    sym (in-page _ _ _ _ c.args.y c.args.x c.group_of.result c.if-x-w.true.0 c.if-x-w.true.1 c.group_of.ensures)

pub returns-else-x-w : goal.returns-else-x-w
returns-else-x-w c = grind (arith, common_steps, in-below, in-beside)
