-- `border_count` meets its contract, by the bounds of a page's size.
use mathlib.Core.Path.{◌∙◌, sym}
use native.Mathlib.Omega.{arith}
use Rattle.rules.specs.Flat.{Sized, border_count}
use Rattle.laws.specs.FlatLaws.{counts}
use Rattle.board.specs.Alien.{borders_of}
use Rattle.board.specs.ConditionLaws.{sized}
use Rattle.board.proofs.border_count.Goals.{Then-size_right}
use Rattle.board.proofs.border_count.Goals as goal

size : (c : Then-size_right) → Sized c.args.h c.args.w
size c = sized (sym c.size_right.ensures ∙ c.if-size_right.true)

pub overflow_sub-result : goal.overflow_sub-result
overflow_sub-result c = (size c).columns

pub overflow_mul-result : goal.overflow_mul-result
overflow_mul-result c = omega (arith, counts (size c))

pub overflow_sub-result-then-size_right : goal.overflow_sub-result-then-size_right
overflow_sub-result-then-size_right c = (size c).rows

pub overflow_mul-result-then-size_right : goal.overflow_mul-result-then-size_right
overflow_mul-result-then-size_right c = omega (arith, counts (size c))

pub overflow_add-result : goal.overflow_add-result
overflow_add-result c = omega (arith, counts (size c))

pub returns-then-size_right : goal.returns-then-size_right
unfolding borders_of border_count
returns-then-size_right c = rw (← c.size_right.ensures, c.if-size_right.true)

pub returns-else-size_right : goal.returns-else-size_right
unfolding borders_of
returns-else-size_right c = rw (← c.size_right.ensures, c.if-size_right.false)
