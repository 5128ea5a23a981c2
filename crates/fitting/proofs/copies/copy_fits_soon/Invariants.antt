-- The loop's invariant: the answer is that of the first cells from o on.
-- the unit's shape fits at a cell
use mathlib.Core.Path.{◌≡◌}
use mathlib.Core.Bool.{Bool}
use mathlib.Core.List.{List}
use Prim.Native.Nat.{ℕ}
use Rattle.lists.specs.Lists.{any}
use lib.ListN.{length}
use Rattle.lists.specs.Parts.{part}
use Rattle.rules.specs.Codes.{states_in, unclued}
use Rattle.rules.specs.Flat.{flat}
use Rattle.rules.specs.Groups.{entry}
use Rattle.rules.specs.Shapes.{shape_of}
use Rattle.groups.specs.declared.Grouping.{Grouping}
use Rattle.groups.specs.Grouping.{numbers_in, cells_in, starts_in}
use Rattle.planes.specs.Placing.{fits_of}
use Rattle.planes.specs.Laying.{fits_among}
use Rattle.fitting.specs.Copies.{soon_in}
use Rattle.fitting.proofs.copies.copy_fits_soon.Given as goal

abbrev pub fit : ℕ → ℕ → List ℕ → List ℕ → Grouping → ℕ → ℕ → Bool
fit h w colours borders units g =
    fits_of (unclued h w colours) (states_in borders) (shape_of (flat h w) (entry (numbers_in units)) g)

abbrev pub invariant-loop-o : goal.invariant-loop-o
invariant-loop-o l =
    fits_among (unclued l.h l.w l.colours) (states_in l.borders)
    (shape_of (flat l.h l.w) (entry (numbers_in l.units)) l.g)
    (soon_in (cells_in l.potential) (starts_in l.potential) l.q)
    ≡ any (fit l.h l.w l.colours l.borders l.units l.g) (part l.o-items l.o-index (length l.o-items))
