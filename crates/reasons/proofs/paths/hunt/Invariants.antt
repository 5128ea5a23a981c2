-- What is left of the definition's run is the whole run; it ends with b found, or with an empty queue.
use Prim.Native.Nat.{◌-◌, ◌*◌}
use Rattle.reasons.proofs.PathLaws.{Going}
use Rattle.reasons.proofs.paths.hunt.Given as goal

abbrev pub invariant-loop-head : goal.invariant-loop-head
invariant-loop-head l = Going l.h l.w l.borders l.a l.head l.queue l.parent l.over l.found l.tail

abbrev pub decreases-loop-head : goal.decreases-loop-head
decreases-loop-head l = l.h * l.w - l.head
