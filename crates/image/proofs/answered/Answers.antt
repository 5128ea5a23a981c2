-- `answered` meets its contract: the number of what Check gives, and a reason's literals in the memory's bytes.
-- once the board is checked
use mathlib.Core.Path.{◌∙◌}
use native.Mathlib.Omega.{arith}
use borrow.Author.Rules.{rules}
use borrow.Author.Tests.{ltb-false}
use lib.ListN.{length}
use Rattle.calls.specs.Known.{found_in}
use Rattle.image.specs.Image.{is_short}
use Rattle.image.specs.CheckLaws.{Checks, checks}
use Rattle.image.proofs.answered.Goals.{After-slice_known-3-1}
use Rattle.image.proofs.answered.Goals as goal

facts : (k : After-slice_known-3-1) → let a = k.args in
    let r = k.answer_known-answer in
    Checks a.memory.now r.new.memory
    (found_in a.h a.w a.colours.now a.clues.now a.borders.now) r.result
facts k =
    let p = k.requires in
    let r = k.answer_known-answer.ensures in
    checks p.0 k.args.memory.now _ p.1 _ _ r.0 r.1

pub overflow_cast-result : goal.overflow_cast-result
overflow_cast-result c =
    let f = facts (goal.at.overflow_cast-result c).After-slice_known-3-1 in
    let r = f.range _ c.in-Pass.is in search rules

pub overflow_add-result : goal.overflow_add-result
overflow_add-result c =
    let f = facts (goal.at.overflow_add-result c).After-slice_known-3-1 in
    let r = f.range _ c.in-Pass.is in omega arith

pub put_codes-requires : goal.put_codes-requires
unfolding is_short
put_codes-requires c =
    let f = facts (goal.at.put_codes-requires c).After-slice_known-3-1 in
    let e = c.in-Conflict.is in
    let r = f.range _ e in
    let h = ltb-false (length c.args.memory.now) 3968 c.requires.2 in
    (f.fits _ e, omega arith)

pub overflow_cast-result-in-Conflict : goal.overflow_cast-result-in-Conflict
overflow_cast-result-in-Conflict c =
    let f = facts (goal.at.overflow_cast-result-in-Conflict c).After-slice_known-3-1 in
    let r = f.range _ c.in-Conflict.is in
    search rules

pub overflow_add-result-in-Conflict : goal.overflow_add-result-in-Conflict
overflow_add-result-in-Conflict c =
    let f = facts (goal.at.overflow_add-result-in-Conflict c).After-slice_known-3-1 in
    let r = f.range _ c.in-Conflict.is in
    omega arith

pub returns-in-Conflict-clause-bytes : goal.returns-in-Conflict-clause-bytes
returns-in-Conflict-clause-bytes c =
    let f = facts (goal.at.returns-in-Conflict-clause-bytes c).After-slice_known-3-1 in
    c.put_codes.ensures ∙ f.reason _ c.in-Conflict.is
