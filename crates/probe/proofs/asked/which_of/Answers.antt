-- Each arm cites its number.
use Rattle.std.proofs.Common.{rules}
use Rattle.probe.specs.ProbeAsked.{which_of}
use Rattle.probe.proofs.asked.which_of.Goals as goal

pub returns-in-0 : goal.returns-in-0
unfolding which_of
returns-in-0 c = rw c.in-0.is

pub returns-in_default : goal.returns-in_default
unfolding which_of
returns-in_default c = search rules
