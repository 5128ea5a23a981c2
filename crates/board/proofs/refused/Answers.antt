-- `refused` meets its contract: its board is the all-zero one.
use mathlib.Core.Path.{refl}
use Rattle.board.proofs.refused.Goals as goal

pub returns : goal.returns
returns c = rw c.zero.ensures refl
