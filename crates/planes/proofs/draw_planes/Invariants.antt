-- The loop's invariant: the doubled rows before r are drawn.
use Prim.Native.Nat.{◌*◌, ◌-◌, ◌≤◌}
use Rattle.planes.specs.DrawLaws.{Drawing}
use Rattle.planes.proofs.draw_planes.Given as goal

abbrev pub invariant-loop-r : goal.invariant-loop-r
invariant-loop-r l = (l.r ≤ 2 * l.h - 1) × Drawing l.h l.w l.colours l.borders l.r l.planes
