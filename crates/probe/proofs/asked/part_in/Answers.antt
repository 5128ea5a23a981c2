-- The parts of the two lists are those of the groupings.
use Rattle.groups.specs.Parts.{part_of}
use Rattle.probe.proofs.asked.part_in.Goals as goal

pub returns : goal.returns
unfolding part_of
returns c = c.part.ensures
