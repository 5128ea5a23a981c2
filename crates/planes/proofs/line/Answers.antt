-- Odd rows lie below a row of cells, even ones right of its cells.
-- the row's cells and borders are those of the page
use mathlib.Core.Path.{sym, ◌∙◌}
use Rattle.planes.specs.PlaneLaws.{line-odd, line-even}
use Rattle.planes.proofs.line.Goals.{Start}
use Rattle.planes.proofs.line.Goals as goal

pub returns-then-r-eq1 : goal.returns-then-r-eq1
returns-then-r-eq1 c =
    c.clear_row.ensures
    ∙ sym (line-odd c.args.h c.args.w c.args.colours.now c.args.borders.now c.args.r
    c.if-r-eq1.true)

pub returns : goal.returns
returns c =
    c.clear_row-2.ensures
    ∙ sym (line-even c.args.h c.args.w c.args.colours.now c.args.borders.now c.args.r
    c.if-r-eq1.false)
