-- Each arm cites its number.
use Rattle.std.proofs.Common.{rules}
use Rattle.probe.specs.Probe.{kind_of}
use Rattle.probe.proofs.kind_of.Goals as goal

pub returns-in-0 : goal.returns-in-0
unfolding kind_of
returns-in-0 c = rw c.in-0.is

pub returns-in-1 : goal.returns-in-1
unfolding kind_of
returns-in-1 c = rw c.in-1.is

pub returns-in_default : goal.returns-in_default
unfolding kind_of
returns-in_default c = search rules
