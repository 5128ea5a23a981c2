-- The loop's invariant: the calls before i are done, and the image is not alien.
use Rattle.image.specs.SeriesLaws.{Running}
use Rattle.image.proofs.series.dbchoco_calls.Given as goal

abbrev pub invariant-loop-i : goal.invariant-loop-i
invariant-loop-i l = Running l.initial.image l.codes l.i l.image
