-- `cell_count` meets its contract, by the bounds of a page's size.
use mathlib.Core.Path.{◌∙◌, sym}
use native.Mathlib.Omega.{arith}
use Rattle.laws.specs.FlatLaws.{counts}
use Rattle.board.specs.Alien.{cells_of}
use Rattle.board.specs.ConditionLaws.{sized}
use Rattle.board.proofs.cell_count.Goals as goal

pub overflow_mul-result : goal.overflow_mul-result
overflow_mul-result c = omega (arith, counts (sized (sym c.size_right.ensures ∙ c.if-size_right.true)))

pub returns-then-size_right : goal.returns-then-size_right
unfolding cells_of
returns-then-size_right c = rw (← c.size_right.ensures, c.if-size_right.true)

pub returns-else-size_right : goal.returns-else-size_right
unfolding cells_of
returns-else-size_right c = rw (← c.size_right.ensures, c.if-size_right.false)
