-- `answer_tested` meets its contract: short memory, and memory with room for a reason.
-- what Check gives of the arrays that are lent
use mathlib.Core.Path.{◌∙◌}
use Rattle.rules.specs.Check.{Verdict}
use Rattle.calls.specs.Known.{found_in}
use Rattle.calls.specs.AnswerLaws.{found-short, found-long}
use Rattle.calls.proofs.answer_tested.Goals.{Start}
use Rattle.calls.proofs.answer_tested.Goals as goal

abbrev found : Start → Verdict
found s =
    let a = s.args in
    found_in a.h a.w a.colours.now a.clues.now a.borders.now

pub returns-then-short : goal.returns-then-short
returns-then-short c =
    found-short (found (goal.at.returns-then-short c).Start) c.args.memory.now c.if-short.true

pub answer_known-requires : goal.answer_known-requires
answer_known-requires c = (c.requires, c.if-short.false)

pub returns : goal.returns
returns c =
    let r = c.answer_known.ensures in
    let g = found-long (found (goal.at.returns c).Start) c.args.memory.now c.if-short.false in
    (r.0 ∙ g.0, r.1 ∙ g.1)
