-- `same_cell` meets its contract, test by test.
use Rattle.page.specs.Grammar.{same_cell}
use borrow.Author.Tests.{eq-eqb, ne_eqb}
use Rattle.page.proofs.whole.same_cell.Goals as goal

pub returns-then-c-d : goal.returns-then-c-d
unfolding same_cell
returns-then-c-d c = simp (eq-eqb _ _ c.if-c-d.true)

pub returns-else-c-d : goal.returns-else-c-d
unfolding same_cell
returns-else-c-d c = simp (ne_eqb _ _ c.if-c-d.false)
