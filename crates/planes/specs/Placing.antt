-- Placing: what the code of a placement is measured by.
--
--   bare js             a shape with the connections js; a placement looks at nothing else
--   read_raised y x     the border that a raised doubled place reads
--   between c s f t b   what the border b between the cells f and t does to a placement, by colours c and states s
--   reading_of Z s o    what a connection that reads o does to a placement
--   is_clear r          it neither ends the placement nor is a wall
--   fits_of Z s t o     the transform t fits with its origin at cell o
use Rattle.std.specs.Prelude.{Bool, true, false, cond, List, [], ℕ}
use Rattle.std.specs.Bool.{beq}
use Rattle.std.proofs.Math.Option.{Option, some, none}
use Rattle.rules.specs.Page.{Puzzle, Point, Shape, State, is_wall}
use Rattle.rules.specs.Rules.{one_colour}
use Rattle.rules.specs.Check.{laid, is_fit}
use Rattle.rules.specs.Flat.{flat_reads}
use Rattle.shapes.specs.Raising.{raised}
use Rattle.planes.specs.declared.Reading.{Reading}
use Rattle.planes.specs.declared.Reading.TheVariants.{Ends, Clear, Walled}

abbrev pub bare : List Point → Shape
bare js = record { cells = []; connections = js }

unfoldable pub read_raised : ℕ → ℕ → ℕ → ℕ → Option ℕ
read_raised h w y x = flat_reads h w (raised y x)

unfoldable pub between : (ℕ → Bool) → (ℕ → State) → ℕ → ℕ → ℕ → Reading
between colour s from to b = cond (beq (colour from) (colour to)) (cond (is_wall (s b)) (Walled b) Clear) Ends

-- "one off the page .. or joining two colours ends the placement without blocker"
unfoldable pub reading_of : Puzzle → (ℕ → State) → Option ℕ → Reading
reading_of Z s none = Ends
reading_of Z s (some b) = cond (one_colour Z b) (cond (is_wall (s b)) (Walled b) Clear) Ends

abbrev pub is_clear : Reading → Bool
is_clear Ends = false
is_clear Clear = true
is_clear (Walled b) = false

unfoldable pub fits_of : Puzzle → (ℕ → State) → Shape → ℕ → Bool
fits_of Z s t o = is_fit Z s (laid Z s t o)
