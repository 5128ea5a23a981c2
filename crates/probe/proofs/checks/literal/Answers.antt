-- The side of a code is its last bit.
use Rattle.std.proofs.Common.{◌∙◌}
use Rattle.probe.specs.ProbeChecksLaws.{code-literal}
use Rattle.probe.proofs.checks.literal.Goals as goal

pub returns : goal.returns
returns c = c.literal.ensures ∙ code-literal c.args.n
