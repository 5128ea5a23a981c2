-- Whether there is a neighbour, and it is a breach, decides.
use Rattle.walls.specs.WallCases.{hop-off, hop-some}
use Rattle.walls.proofs.hop_breach.Goals as goal

pub returns-in_err-n : goal.returns-in_err-n
returns-in_err-n c = rw (c.from_residual.ensures, c.in_err-n.was) (hop-off _ _ _)

pub returns : goal.returns
returns c = rw (c.then_some.ensures, c.is_breach.ensures, c.in_ok-n.was) (hop-some _ _ _ c.in_ok-n.n)
