-- Row 0, whose image the arrays have already, is tried first, then the other rows.
-- the test of a row, and that of row 0 as the search over the planes answers it
use mathlib.Core.Path.{◌≡◌, sym, ap, ◌∙◌}
use mathlib.Core.Bool.{Bool}
use mathlib.Core.List.{List}
use Prim.Native.Nat.{ℕ}
use native.Mathlib.Omega.{arith}
use borrow.Author.Rules.{rules}
use Rattle.lists.specs.TestLaws.{any_some}
use Rattle.rules.specs.Page.{Point}
use Rattle.shapes.specs.Spots.{cell_spots, joint_spots}
use Rattle.shapes.specs.Images.{image_joints}
use Rattle.planes.specs.Masks.{MaskAnswers}
use Rattle.fitting.proofs.images.some_row_fits.Goals.{After-mask_fits, Start}
use Rattle.fitting.proofs.images.some_row_fits.Goals as goal

abbrev test : Start → (List Point → Bool) → ℕ → Bool
test s F i =
    F (image_joints i (cell_spots s.args.outline.now) (joint_spots s.args.outline.now))

first : (c : After-mask_fits) → (F : List Point → Bool) → MaskAnswers c.args.h c.args.planes.now c.args.mask.now F
    → c.mask_fits.result ≡ test (goal.at.After-mask_fits c).Start F 0
first c F a =
    rw c.joint_count.ensures at c.mask_fits.ensures ∙ (a _ _ c.requires.3 ∙ ap F c.requires.4)

pub mask_fits-requires : goal.mask_fits-requires
mask_fits-requires c = (c.requires.0, search rules, rw c.joint_count.ensures c.requires.3)

pub returns-then-mask_fits : goal.returns-then-mask_fits
returns-then-mask_fits c =
    λ F a.
    c.if-mask_fits.true
    ∙ sym
    (any_some 8 (test (goal.at.returns-then-mask_fits c).Start F) 0 (omega arith)
    (sym (first (goal.at.returns-then-mask_fits c).After-mask_fits F a) ∙ c.if-mask_fits.true))

pub returns-else-mask_fits : goal.returns-else-mask_fits
returns-else-mask_fits c =
    λ F a.
    c.others_fit.ensures F a (sym (first (goal.at.returns-else-mask_fits c).After-mask_fits F a) ∙ c.if-mask_fits.false)
