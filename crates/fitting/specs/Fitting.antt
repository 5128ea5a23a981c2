-- Whether a unit fits beside its potential unit.
--
--   fits_turned         one of the shape's listed transforms fits at a cell of one of the groups
--   fits_rows           the image by one of the eight rows does, of the connections js of the cells ps
use Rattle.std.specs.Prelude.{Bool, List, ℕ}
use Rattle.lists.specs.Lists.{any}
use Rattle.lists.specs.Tests.{any_below}
use Rattle.rules.specs.Page.{State, Point, Puzzle, Shape}
use Rattle.rules.specs.Shapes.{flat_transforms}
use Rattle.shapes.specs.Images.{image_joints}
use Rattle.planes.specs.Placing.{bare}
use Rattle.planes.specs.Laying.{fits_beside}

unfoldable pub fits_turned : Puzzle → (ℕ → State) → List ℕ → List ℕ → List ℕ → Shape → Bool
fits_turned Z s cells offs mates t = any (λ u. fits_beside Z s u cells offs mates) (flat_transforms t)

unfoldable pub fits_rows : Puzzle → (ℕ → State) → List ℕ → List ℕ → List ℕ → List Point → List Point → Bool
fits_rows Z s cells offs mates ps js =
    any_below 8 (λ r. fits_beside Z s (bare (image_joints r ps js)) cells offs mates)
