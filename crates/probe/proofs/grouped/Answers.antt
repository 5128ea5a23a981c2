-- The equations of the parts put together.
use Rattle.probe.specs.Probe.{kind_groups}
use Rattle.probe.proofs.grouped.Goals as goal

pub returns : goal.returns
unfolding kind_groups
returns c = rw (c.places.ensures, c.places-2.ensures, c.kind_of.ensures) at c.groups_of.ensures
