-- A scan with the mates flagged.
use Rattle.stuck.specs.Writing.{far_in}
use Rattle.stuck.proofs.unit_walls.far_walls.Goals as goal

pub returns : goal.returns
unfolding far_in
returns c = rw c.flag_mates.ensures at c.scan_walls.ensures
