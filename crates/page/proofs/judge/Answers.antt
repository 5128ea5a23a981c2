-- `judge` meets its contract: 10 where the page is malformed, and otherwise the judgement of its parts.
use Rattle.std.specs.Prelude.{◌≡◌, List, ℕ, Option, Some, None, Ok, Err, ok_or}
use Rattle.std.proofs.lemmas.Result.{err_from_is_err_and}
use Rattle.std.proofs.Math.Option.{some}
use Rattle.page.specs.declared.Parts.{Parts}
use Rattle.page.specs.declared.Unfit.{Unfit}
use Rattle.page.specs.declared.Unfit.TheVariants.{Form}
use Rattle.page.specs.Grammar.{page_of}
use Rattle.page.specs.Judge.{judgement_of}
use Rattle.page.specs.JudgeLaws.{malformed, formed}
use Rattle.page.specs.Places.{judged_of, form_of, sheet_at}
use mathlib.Core.Path.{sym, ◌∙◌}
use Rattle.page.proofs.judge.Goals as goal

refused : (s : List ℕ) (o : Option Parts) (u : Unfit) → form_of s o ≡ page_of s → Err u ≡ ok_or o Form
    → judged_of s (Err u) ≡ judgement_of s
unfolding judged_of form_of
refused s None u e h = let q : u ≡ Form = cc in rw q (sym (malformed s (sym e)))
refused s (Some p) u e h = cc

read : (s : List ℕ) (o : Option Parts) (p : Parts) → form_of s o ≡ page_of s → Ok p ≡ ok_or o Form
    → page_of s ≡ some (sheet_at s p)
unfolding form_of
read s None p e h = cc
read s (Some q) p e h = let r : q ≡ p = cc in rw r at (sym e)

pub returns-in_err-p : goal.returns-in_err-p
returns-in_err-p c =
    let p = err_from_is_err_and c.from_residual.result c.from_residual.ensures.1 in
    rw (p.1, p.2) (refused _ _ _ c.form_of.ensures c.in_err-p.ensures.value)

pub returns : goal.returns
returns c = c.judge_parts.ensures ∙ sym (formed _ _ (read _ _ _ c.form_of.ensures c.in_ok-p.ensures.value))
