-- The cell's number, and its neighbour.
use native.Mathlib.Omega.{arith}
use Rattle.laws.specs.FlatLaws.{Counts, counts, Spot, spot}
use Rattle.reasons.proofs.step.Goals.{Start}
use Rattle.reasons.proofs.step.Goals as goal

few : (s : Start) → Counts s.args.h s.args.w
few s = counts s.requires.0

at : (s : Start) → Spot s.args.h s.args.w s.args.y s.args.x
at s = spot _ _ _ _ s.requires.1 s.requires.2

pub overflow_mul-y : goal.overflow_mul-y
overflow_mul-y c = omega (arith, few c, at c)

pub overflow_add-y : goal.overflow_add-y
overflow_add-y c = omega (arith, few c, at c)
