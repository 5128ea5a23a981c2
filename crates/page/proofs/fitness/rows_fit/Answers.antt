-- `rows_fit` meets its contract: the rows from p on are as many as are left, each of w digits, if all rows fit.
use Rattle.page.specs.FormLaws.{from-none, from_more}
use Rattle.page.specs.JudgeLaws.{length_digits, rows_none, rows-many, rows_other, rows_more}
use Rattle.page.specs.Many.{passes}
use Rattle.page.specs.PageText.{row-takes}
use Rattle.page.specs.Places.{got_digits}
use borrow.Author.Rules.{rules}
use mathlib.Core.Path.{sym, ◌∙◌}
use Rattle.page.proofs.fitness.rows_fit.Goals.{then-left-eq0-via-then-left-eq0}
use Rattle.page.proofs.fitness.rows_fit.Goals.{then-left-eq0-via-else-left-eq0+then-saturating_sub-w}
use Rattle.page.proofs.fitness.rows_fit.Goals as goal

pub returns-then-left-eq0 : goal.returns-then-left-eq0
unfolding got_digits
returns-then-left-eq0 c =
    let more = from_more row-takes _ _ _ _ (sym c.in-Some.ensures) in
    sym
    (c.loop-digits.invariant ∙
    elim c.then-left-eq0.branch [
      | then-left-eq0-via-then-left-eq0 w ↦ rows-many _ _ more w.if-left-eq0.true
      | then-left-eq0-via-else-left-eq0+then-saturating_sub-w w ↦
          rows_other _ _ more
          (λ q. w.if-saturating_sub-w.true (w.saturating_sub.ensures ∙ sym (length_digits _ _ _) ∙ q))
    ])

pub loop-digits-smaller : goal.loop-digits-smaller
unfolding got_digits
loop-digits-smaller c =
    passes row-takes _ _ _ _
    (sym c.in-Some.ensures)

pub loop-digits-preserved : goal.loop-digits-preserved
unfolding got_digits
loop-digits-preserved c =
    c.loop-digits.invariant ∙
    rows_more _ _ (from_more row-takes _ _ _ _
    (sym c.in-Some.ensures))
    (search rules) (length_digits _ _ _ ∙ sym c.saturating_sub.ensures ∙ c.if-saturating_sub-w.false)

pub returns : goal.returns
unfolding got_digits
returns c = sym (c.loop-digits.invariant ∙ rows_none _ _ (from-none row-takes _ _ (sym c.in_default.ensures)))
