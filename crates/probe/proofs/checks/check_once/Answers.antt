-- The check answers in range.
use Rattle.probe.specs.ProbeChecksLaws.{check-in-range}
use Rattle.probe.proofs.checks.check_once.Goals as goal

pub number-requires : goal.number-requires
number-requires c = rw c.check_lent.ensures.0 (check-in-range _ c.args.memory.now)
