-- `judge_parts` meets its contract, test by test.
use Rattle.page.specs.JudgeLaws.{not-sized, ragged, discoloured, right}
use Rattle.page.specs.Places.{judged_of, sheet_at}
use mathlib.Core.Path.{sym, ◌∙◌}
use Rattle.page.proofs.fitness.judge_parts.Goals as goal

pub returns-then-not-size_right : goal.returns-then-not-size_right
unfolding judged_of sheet_at
returns-then-not-size_right c = sym (not-sized _ (sym c.size_right.ensures ∙ c.if-not-size_right.true))

pub returns-then-not-rows_fit : goal.returns-then-not-rows_fit
unfolding judged_of sheet_at
returns-then-not-rows_fit c =
    sym (ragged _ (sym c.size_right.ensures ∙ c.if-not-size_right.false)
    (sym c.rows_fit.ensures ∙ c.if-not-rows_fit.true))

pub returns-then-not-two_colours : goal.returns-then-not-two_colours
unfolding judged_of sheet_at
returns-then-not-two_colours c =
    sym
    (discoloured _ (sym c.size_right.ensures ∙ c.if-not-size_right.false)
    (sym c.rows_fit.ensures ∙ c.if-not-rows_fit.false)
    (sym c.two_colours.ensures ∙ c.if-not-two_colours.true))

pub returns : goal.returns
unfolding judged_of sheet_at
returns c =
    sym
    (right _ (sym c.size_right.ensures ∙ c.if-not-size_right.false)
    (sym c.rows_fit.ensures ∙ c.if-not-rows_fit.false)
    (sym c.two_colours.ensures ∙ c.if-not-two_colours.false))
