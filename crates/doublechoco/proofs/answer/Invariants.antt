-- Each chunk takes a step.
use Rattle.std.proofs.Common.{length, ◌≡◌, ◌≤◌}
use Rattle.transcript.specs.Left.{steps}
use Rattle.doublechoco.proofs.answer.Given as goal

abbrev pub invariant-loop-run : goal.invariant-loop-run
invariant-loop-run g l = (32 ≤ length l.out) × (length l.memory ≡ 1984)

abbrev pub decreases-loop-run : goal.decreases-loop-run
decreases-loop-run g l = steps l.s l.run
