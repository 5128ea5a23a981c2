-- `answer` is safe and ends: each chunk takes a step.
use Rattle.std.proofs.Common.{rules, sym, ◌∙◌}
use Rattle.doublechoco.proofs.answer.Goals as goal

pub loop-run-smaller : goal.loop-run-smaller
loop-run-smaller g c = c.next-run.ensures.less (search rules) (sym c.goes_on.ensures ∙ c.loop-run-test.true)
