-- `form_of` meets its contract: the words and the lines read are what the parsers read there.
use Rattle.page.specs.FormLaws.{Body, too_long, no-page, no_size, no_end, more_left, misfit, good}
use Rattle.page.specs.Places.{form_of, left_from, got_value, end_of, sheet_at}
use Rattle.page.specs.ParserLaws.{rest_all}
use borrow.Author.Rules.{rules}
use mathlib.Core.Path.{sym, ◌∙◌}
use Rattle.page.proofs.whole.form_of.Goals.{After-lines_end-end}
use Rattle.page.proofs.whole.form_of.Goals.{then-last-s-via-then-last-s}
use Rattle.page.proofs.whole.form_of.Goals.{then-last-s-via-else-last-s+then-not-clues_fit}
use Rattle.page.proofs.whole.form_of.Goals as goal

-- Where the calls end, the lines before are read
body : (c : After-lines_end-end)
    → Body c.args.s.now
    c.in_ok-height.height c.in_ok-height.width c.in_ok-height.rows
    c.lines_end-clues.result c.lines_end-calls.result c.lines_end-end.result
unfolding left_from got_value end_of
body c =
    record {
      short = c.if-s-gt65536.false;
      start = _;
      paged = rw rest_all at (sym c.in_ok-a.ensures);
      sized = sym c.in_ok-height.ensures;
      rowed = c.lines_end-clues.ensures;
      clued = c.lines_end-calls.ensures;
      called = c.lines_end-end.ensures;
    }

pub returns-then-s-gt65536 : goal.returns-then-s-gt65536
unfolding form_of
returns-then-s-gt65536 c = sym (too_long _ (search rules))

pub returns-in_err-a : goal.returns-in_err-a
unfolding form_of left_from
returns-in_err-a c =
    rw c.from_residual.ensures
    (sym (no-page _ c.if-s-gt65536.false (rw rest_all at (sym c.in_err-a.ensures))))

pub returns-in_err-height : goal.returns-in_err-height
unfolding form_of left_from got_value
returns-in_err-height c =
    rw c.from_residual-in_err-height.ensures
    (sym (no_size _ c.if-s-gt65536.false _ (rw rest_all at (sym c.in_ok-a.ensures)) (sym c.in_err-height.ensures)))

pub returns-in_err-last : goal.returns-in_err-last
unfolding form_of left_from
returns-in_err-last c =
    rw c.from_residual-in_err-last.ensures
    (sym (no_end (body (goal.at.returns-in_err-last c).After-lines_end-end) (sym c.in_err-last.ensures)))

pub returns-then-last-s : goal.returns-then-last-s
unfolding form_of left_from
returns-then-last-s c =
    let b = body (goal.at.returns-then-last-s c).After-lines_end-end in
    sym
    (elim c.then-last-s.branch [
      | then-last-s-via-then-last-s w ↦ more_left b _ (sym c.in_ok-last.ensures) w.if-last-s.true
      | then-last-s-via-else-last-s+then-not-clues_fit w ↦
          misfit b _ (sym c.in_ok-last.ensures) w.if-last-s.false
          (sym w.clues_fit.ensures ∙ w.if-not-clues_fit.true)
    ])

pub returns : goal.returns
unfolding form_of left_from sheet_at
returns c =
    sym
    (good (body (goal.at.returns c).After-lines_end-end) _
    (sym c.in_ok-last.ensures) c.if-last-s.false
    (sym c.clues_fit.ensures ∙ c.if-not-clues_fit.false))
