-- `colours` meets its contract: the rows from p on are still to be laid.
use Rattle.page.specs.Filling.{rows_end, rows_on}
use Rattle.page.specs.FormLaws.{from-none, from_more}
use Rattle.page.specs.Judge.{colour_array}
use Rattle.page.specs.Many.{passes}
use Rattle.page.specs.PageText.{row-takes}
use Rattle.page.specs.Places.{got_digits}
use mathlib.Core.Path.{sym, ◌∙◌, refl}
use Rattle.page.proofs.filling.colours.Goals as goal

pub loop-digits-init : goal.loop-digits-init
unfolding colour_array
loop-digits-init c = refl

pub loop-digits-smaller : goal.loop-digits-smaller
unfolding got_digits
loop-digits-smaller c =
    passes row-takes _ _ _ _
    (sym c.in-Some.ensures)

pub loop-digits-preserved : goal.loop-digits-preserved
unfolding got_digits
loop-digits-preserved c =
    c.loop-digits.invariant ∙
    rows_on (from_more row-takes _ _ _ _
    (sym c.in-Some.ensures))
    c.with_digits-laid.ensures

pub returns : goal.returns
unfolding got_digits
returns c = sym (c.loop-digits.invariant ∙ rows_end _ _ (from-none row-takes _ _ (sym c.in_default.ensures)))
