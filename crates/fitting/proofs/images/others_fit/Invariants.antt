-- The loop's invariant: where row 0 does not fit, no row before `row` does.
use mathlib.Core.Path.{◌≡◌}
use mathlib.Core.Bool.{Bool, false}
use mathlib.Core.List.{List}
use Rattle.lists.specs.Tests.{any_below}
use Rattle.rules.specs.Page.{Point}
use Rattle.shapes.specs.Spots.{cell_spots, joint_spots}
use Rattle.shapes.specs.Images.{image_joints}
use Rattle.planes.specs.Masks.{MaskAnswers}
use Rattle.fitting.proofs.images.others_fit.Given as goal

abbrev pub invariant-loop-row : goal.invariant-loop-row
invariant-loop-row l =
    (F : List Point → Bool) → MaskAnswers l.h l.planes l.mask F
    → F (image_joints 0 (cell_spots l.outline) (joint_spots l.outline)) ≡ false
    → any_below l.row (λ i. F (image_joints i (cell_spots l.outline) (joint_spots l.outline))) ≡ false
