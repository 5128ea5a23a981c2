-- The loop's invariant: the unit fits exactly if the cells from c on have clear connections.
use mathlib.Core.Path.{◌≡◌}
use Prim.Native.Nat.{ℕ}
use Rattle.lists.specs.Lists.{all}
use lib.ListN.{length}
use Rattle.lists.specs.Parts.{part}
use Rattle.rules.specs.Codes.{states_in, unclued}
use Rattle.rules.specs.Flat.{flat}
use Rattle.rules.specs.Groups.{entry}
use Rattle.rules.specs.Shapes.{shape_of}
use Rattle.groups.specs.Grouping.{numbers_in}
use Rattle.planes.specs.Placing.{fits_of}
use Rattle.fitting.specs.Copies.{cell_clear}
use Rattle.fitting.proofs.copies.copy_fits.Given as goal

abbrev pub invariant-loop-c : goal.invariant-loop-c
invariant-loop-c l =
    let number : ℕ → ℕ = entry (numbers_in l.units) in
    fits_of (unclued l.h l.w l.colours) (states_in l.borders) (shape_of (flat l.h l.w) number l.g) l.o
    ≡ all (cell_clear l.h l.w l.colours (states_in l.borders) number l.g l.y l.x)
    (part l.cells l.c-index (length l.cells))
