-- `digits_low` meets its contract: the digits passed are 0 or 1.
use Rattle.page.specs.JudgeLaws.{LowTo}
use Rattle.page.proofs.fitness.digits_low.Given as goal

abbrev pub invariant-loop-p : goal.invariant-loop-p
invariant-loop-p l = LowTo l.s l.fn.digits.from l.p
