-- The loop's invariant: the units before u fit.
use Rattle.rules.specs.Codes.{states_in, unclued}
use Rattle.groups.specs.Grouping.{count_in}
use Rattle.fitting.specs.Held.{Nearby}
use Rattle.fitting.specs.FirstStuck.{Passed, fits_unit}
use Rattle.fitting.proofs.singles.after_singles.Given as goal

abbrev pub invariant-loop-u : goal.invariant-loop-u
invariant-loop-u l =
    Passed (fits_unit (unclued l.h l.w l.colours) (states_in l.borders)) (count_in l.units) l.u
    × Nearby l.h l.w l.colours l.borders l.near
