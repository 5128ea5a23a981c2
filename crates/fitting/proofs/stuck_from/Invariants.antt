-- The loop's invariant: the answer is the first from u on that does not fit.
use Rattle.rules.specs.Codes.{states_in, unclued}
use Rattle.groups.specs.Grouping.{count_in}
use Rattle.fitting.specs.Held.{Nearby, Held}
use Rattle.fitting.specs.FirstStuck.{Passed, fits_unit}
use Rattle.fitting.proofs.stuck_from.Given as goal

abbrev pub invariant-loop-u : goal.invariant-loop-u
invariant-loop-u l =
    Passed (fits_unit (unclued l.h l.w l.colours) (states_in l.borders)) (count_in l.units) l.u
    × Nearby l.h l.w l.colours l.borders l.near
    × Held l.h l.w l.colours l.borders l.potential l.scratch.planes l.scratch.mask
