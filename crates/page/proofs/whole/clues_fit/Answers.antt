-- `clues_fit` meets its contract: the clues from p on fit if those from `at` on do.
use Rattle.page.specs.FormLaws.{from-none, from_more, fit_none, fit-off, fit-twice, fit-more}
use Rattle.page.specs.Many.{passes}
use Rattle.page.specs.PageText.{clue-takes}
use Rattle.page.specs.Places.{got_value}
use mathlib.Core.Path.{sym, ◌∙◌}
use Rattle.page.proofs.whole.clues_fit.Goals.{then-not-on_page-via-then-not-on_page}
use Rattle.page.proofs.whole.clues_fit.Goals.{then-not-on_page-via-else-not-on_page+then-clue_again}
use Rattle.page.proofs.whole.clues_fit.Goals as goal

pub returns-then-not-on_page : goal.returns-then-not-on_page
unfolding got_value
returns-then-not-on_page c =
    let more = from_more clue-takes _ _ _ _ (sym c.in-Some.ensures) in
    sym
    (c.loop-c.invariant ∙
    elim c.then-not-on_page.branch [
      | then-not-on_page-via-then-not-on_page w ↦
          fit-off _ _ _ _ more (sym c.on_page.ensures ∙ w.if-not-on_page.true)
      | then-not-on_page-via-else-not-on_page+then-clue_again w ↦
          fit-twice _ _ _ _ more (sym c.on_page.ensures ∙ w.if-not-on_page.false)
          (sym w.clue_again.ensures ∙ w.if-clue_again.true)
    ])

pub loop-c-smaller : goal.loop-c-smaller
unfolding got_value
loop-c-smaller c =
    passes clue-takes _ _ _ _
    (sym c.in-Some.ensures)

pub loop-c-preserved : goal.loop-c-preserved
unfolding got_value
loop-c-preserved c =
    c.loop-c.invariant ∙
    fit-more _ _ _ _ (from_more clue-takes _ _ _ _
    (sym c.in-Some.ensures))
    (sym c.on_page.ensures ∙ c.if-not-on_page.false)
    (sym c.clue_again.ensures ∙ c.if-clue_again.false)

pub returns : goal.returns
unfolding got_value
returns c = sym (c.loop-c.invariant ∙ fit_none _ _ (from-none clue-takes _ _ (sym c.in_default.ensures)))
