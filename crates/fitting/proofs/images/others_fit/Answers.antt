-- The loop's invariant: where row 0 does not fit, no row before `row` does.
use mathlib.Core.Path.{◌≡◌, sym, ◌∙◌}
use mathlib.Core.Bool.{Bool}
use mathlib.Core.List.{List}
use Prim.Native.Nat.{ℕ}
use native.Mathlib.Omega.{arith}
use Rattle.lists.specs.TestLaws.{any_none, any_some, none_more}
use Rattle.rules.specs.Page.{Point}
use Rattle.shapes.specs.Spots.{cell_spots, joint_spots}
use Rattle.shapes.specs.Images.{image_joints}
use Rattle.fitting.proofs.images.others_fit.Goals.{Start}
use Rattle.fitting.proofs.images.others_fit.Goals as goal

-- the test of a row
abbrev test : Start → (List Point → Bool) → ℕ → Bool
test s F i =
    F (image_joints i (cell_spots s.args.outline.now) (joint_spots s.args.outline.now))

pub loop-row-init : goal.loop-row-init
loop-row-init c = λ F a e. none_more 0 (test c F) (any_none (test c F)) e

pub row_fits-requires : goal.row_fits-requires
row_fits-requires c =
    (c.loop-row-test.true, c.requires.0, c.requires.1, c.requires.2, c.requires.3)

pub returns-then-row_fits : goal.returns-then-row_fits
returns-then-row_fits c =
    λ F a z.
    sym (any_some 8 (test (goal.at.returns-then-row_fits c).Start F) c.loop-row.row c.loop-row-test.true
    (sym (c.row_fits.ensures F a) ∙ c.if-row_fits.true))

pub loop-row-preserved : goal.loop-row-preserved
loop-row-preserved c =
    λ F a z.
    none_more c.loop-row.row (test (goal.at.loop-row-preserved c).Start F) (c.loop-row.invariant F a z)
    (sym (c.row_fits.ensures F a) ∙ c.if-row_fits.false)

pub returns : goal.returns
returns c =
    let e : c.loop-row.row ≡ 8 = omega (arith, c.loop-row-test.false) in
    λ F a z. sym (rw e at (c.loop-row.invariant F a z))
