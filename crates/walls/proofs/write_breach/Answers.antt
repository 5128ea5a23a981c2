-- What `wall_reason` writes.
use Rattle.reasons.specs.Search.{path_in}
use Rattle.walls.specs.Written.{breach_literals}
use Rattle.walls.proofs.write_breach.Goals as goal

pub wall_reason-requires : goal.wall_reason-requires
wall_reason-requires c = c.requires

pub returns : goal.returns
unfolding breach_literals path_in
returns c = c.wall_reason.ensures
