-- `digits_low` meets its contract: the digits passed are 0 or 1.
use Rattle.page.specs.JudgeLaws.{low-none, low-more, low-fails, low-all}
use borrow.Author.Rules.{rules}
use mathlib.Core.Path.{sym}
use native.Mathlib.Omega.{arith}
use Rattle.page.proofs.fitness.digits_low.Goals as goal

pub loop-p-init : goal.loop-p-init
loop-p-init c = low-none _ _

pub returns-then-digit_at-gt1 : goal.returns-then-digit_at-gt1
returns-then-digit_at-gt1 c =
    sym (low-fails c.args.s.now c.args.digits.from c.loop-p.p c.args.digits.to (search rules) (search rules)
    (omega (arith, c.digit_at.ensures)))

pub loop-p-preserved : goal.loop-p-preserved
loop-p-preserved c = low-more _ _ c.loop-p.p (search rules) (omega (arith, c.digit_at.ensures)) c.loop-p.invariant

pub returns : goal.returns
returns c = sym (low-all _ _ _ c.args.digits.to (search rules) c.loop-p.invariant)
