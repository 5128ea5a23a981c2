-- `lines_end` meets its contract: what is left after the lines from p on is what is left after those from `at` on.
use Rattle.page.specs.FormLaws.{lines_none, lines_more}
use Rattle.page.specs.Places.{left_from}
use mathlib.Core.Path.{sym, ◌∙◌}
use Rattle.page.proofs.whole.lines_end.Goals as goal

pub loop-next-smaller : goal.loop-next-smaller
unfolding left_from
loop-next-smaller c =
    (lines_more _ _ _ _
    (sym c.in-Some.ensures)).1

pub loop-next-preserved : goal.loop-next-preserved
unfolding left_from
loop-next-preserved c =
    c.loop-next.invariant
    ∙ (lines_more _ _ _ _ (sym c.in-Some.ensures)).0

pub returns : goal.returns
unfolding left_from
returns c = sym (c.loop-next.invariant ∙ lines_none _ _ _ (sym c.in_default.ensures))
