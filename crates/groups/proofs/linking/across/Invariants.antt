-- Whether the cells are joined to those left of them. The loop has passed y rows; the last row comes after it.
use Prim.Native.Nat.{◌*◌}
use Rattle.groups.specs.Kinds.{joins_in}
use Rattle.groups.specs.Ties.{tied_left, TieFlags}
use Rattle.groups.proofs.linking.across.Given as goal

abbrev pub invariant-loop-y : goal.invariant-loop-y
invariant-loop-y l = TieFlags (l.y * l.w) (tied_left l.h l.w (joins_in l.kind l.h l.w l.colours l.borders)) l.lefts
