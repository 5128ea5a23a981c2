-- `two_colours` meets its contract: the rows from p on have two colours if those from `at` on do.
use Rattle.lists.specs.AnyAll.{all_nil, all-miss, all-skip}
use Rattle.page.specs.FormLaws.{from-none, from_more}
use Rattle.page.specs.Judge.{two_colours}
use Rattle.page.specs.Many.{passes}
use Rattle.page.specs.PageText.{row-takes}
use Rattle.page.specs.Places.{got_digits}
use mathlib.Core.Path.{sym, ◌∙◌}
use Rattle.page.proofs.fitness.two_colours.Goals as goal

pub loop-digits-smaller : goal.loop-digits-smaller
unfolding got_digits
loop-digits-smaller c =
    passes row-takes _ _ _ _
    (sym c.in-Some.ensures)

pub loop-digits-preserved : goal.loop-digits-preserved
unfolding got_digits two_colours
loop-digits-preserved c =
    c.loop-digits.invariant ∙
    all-skip _ (from_more row-takes _ _ _ _
    (sym c.in-Some.ensures))
    (sym c.digits_low.ensures ∙ c.if-not-digits_low.false)

pub returns-then-not-digits_low : goal.returns-then-not-digits_low
unfolding got_digits two_colours
returns-then-not-digits_low c =
    sym
    (c.loop-digits.invariant ∙
    all-miss _ (from_more row-takes _ _ _ _
    (sym c.in-Some.ensures))
    (sym c.digits_low.ensures ∙ c.if-not-digits_low.true))

pub returns : goal.returns
unfolding got_digits two_colours
returns c = sym (c.loop-digits.invariant ∙ all_nil _ (from-none row-takes _ _ (sym c.in_default.ensures)))
