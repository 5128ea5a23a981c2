-- The loop's invariant: each potential unit before p has an adjacent one.
use Rattle.fitting.specs.Held.{Nearby, Adjoined}
use Rattle.fitting.proofs.unit.all_near.Given as goal

abbrev pub invariant-loop-p : goal.invariant-loop-p
invariant-loop-p l = Adjoined l.h l.w l.colours l.borders l.p × Nearby l.h l.w l.colours l.borders l.near
