-- The loop's invariant: no origin of the rows before y fits.
use mathlib.Core.Path.{◌≡◌, sym, ◌∙◌}
use mathlib.Core.Bool.{Bool, false}
use Prim.Native.Nat.{ℕ}
use native.Mathlib.Omega.{arith}
use lib.ListN.{get_or}
use Rattle.lists.specs.TestLaws.{any_none, any_some, none_more, none_rest}
use Rattle.planes.specs.Masks.{line_fits, mask_fits}
use Rattle.planes.specs.WordLaws.{fits-empty}
use Rattle.planes.proofs.mask_fits.Goals.{Start}
use Rattle.planes.proofs.mask_fits.Goals as goal

-- the test of a row, and that a row without origins fails it
abbrev test : Start → ℕ → Bool
test s y =
    line_fits s.args.planes.now y s.args.turned.now s.args.n (get_or s.args.mask.now y 0)

empty : (s : Start) (y : ℕ) → get_or s.args.mask.now y 0 ≡ 0 → test s y ≡ false
empty s y e = fits-empty s.args.planes.now y s.args.turned.now s.args.n e

pub loop-y-init : goal.loop-y-init
loop-y-init c = (
  c.requires.1.low.0,
  none_rest 0 c.args.top (test c) (any_none (test c)) (omega arith) (λ y a b. empty c y (c.requires.1.above y b)),
)

pub returns-then-line_fits : goal.returns-then-line_fits
unfolding mask_fits
returns-then-line_fits c =
    sym (any_some c.args.h (test (goal.at.returns-then-line_fits c).Start) c.loop-y.y
    (omega (arith, c.loop-y-test.true, c.requires.1.low.1))
    (sym c.line_fits.ensures ∙ c.if-line_fits.true))

pub loop-y-preserved : goal.loop-y-preserved
loop-y-preserved c = (
  omega (arith, c.loop-y-test.true, c.requires.1.low.1),
  none_more c.loop-y.y (test (goal.at.loop-y-preserved c).Start) c.loop-y.invariant.1
      (sym c.line_fits.ensures ∙ c.if-line_fits.false),
)

pub returns : goal.returns
unfolding mask_fits
returns c =
    sym (none_rest c.loop-y.y c.args.h (test (goal.at.returns c).Start) c.loop-y.invariant.1 c.loop-y.invariant.0
    (λ y a b. empty (goal.at.returns c).Start y (c.requires.1.below y (omega (arith, c.loop-y-test.false)) b)))
