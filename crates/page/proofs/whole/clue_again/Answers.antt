-- `clue_again` meets its contract: the clues from p on name the cell if those from `at` on do.
use Rattle.lists.specs.AnyAll.{any-nil, any-hit, any-skip}
use Rattle.page.specs.FormLaws.{from-none, from_more}
use Rattle.page.specs.Many.{passes}
use Rattle.page.specs.PageText.{clue-takes}
use Rattle.page.specs.Places.{got_value}
use mathlib.Core.Path.{sym, ◌∙◌}
use Rattle.page.proofs.whole.clue_again.Goals as goal

pub returns-then-same_cell : goal.returns-then-same_cell
unfolding got_value
returns-then-same_cell c =
    sym
    (c.loop-d.invariant ∙
    any-hit _ (from_more clue-takes _ _ _ _
    (sym c.in-Some.ensures))
    (sym c.same_cell.ensures ∙ c.if-same_cell.true))

pub loop-d-smaller : goal.loop-d-smaller
unfolding got_value
loop-d-smaller c =
    passes clue-takes _ _ _ _
    (sym c.in-Some.ensures)

pub loop-d-preserved : goal.loop-d-preserved
unfolding got_value
loop-d-preserved c =
    c.loop-d.invariant ∙
    any-skip _ (from_more clue-takes _ _ _ _
    (sym c.in-Some.ensures))
    (sym c.same_cell.ensures ∙ c.if-same_cell.false)

pub returns : goal.returns
unfolding got_value
returns c = sym (c.loop-d.invariant ∙ any-nil _ (from-none clue-takes _ _ (sym c.in_default.ensures)))
