-- Three lists, one after another.
use Rattle.reasons.proofs.MemoryLaws.{naming-more}
use Rattle.stuck.specs.Writing.{walls_in}
use Rattle.stuck.proofs.unit_walls.walls_of.Goals as goal

pub returns : goal.returns
unfolding walls_in
returns c =
    naming-more c.edge-own.ensures.0
    (naming-more c.edges_of-all.ensures.0 c.far_walls.ensures)
