-- `with_digits` meets its contract: the digits from p on are still to be laid; past 1,024 none is.
use Rattle.page.specs.Filling.{laying-none, laying-full, laying-more, laying-end}
use borrow.Author.Rules.{rules}
use lib.ListN.{length-set}
use Rattle.page.proofs.filling.Laid.with_digits.Goals as goal

pub loop-p-init : goal.loop-p-init
loop-p-init c = (search rules, laying-none _ _)

pub returns-then-self-ge-CELL_LIMIT : goal.returns-then-self-ge-CELL_LIMIT
returns-then-self-ge-CELL_LIMIT c = laying-full _ _ _ c.loop-p.invariant.1 (search rules)

pub loop-p-preserved : goal.loop-p-preserved
loop-p-preserved c = (
  simp length-set (search rules),
  rw c.digit_at.ensures (laying-more _ _ _ c.loop-p.invariant.1 (search rules)),
)

pub returns : goal.returns
returns c = laying-end _ _ _ c.loop-p.invariant.1 (search rules)
