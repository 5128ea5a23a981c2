-- The loop's invariant: the doubled rows before r are drawn.
use Prim.Native.Nat.{◌<◌}
use native.Mathlib.Omega.{arith}
use Rattle.planes.specs.DrawLaws.{draw-start, draw-more, draw-end}
use Rattle.planes.proofs.draw_planes.Goals.{After-line}
use Rattle.planes.proofs.draw_planes.Goals as goal

pub loop-r-init : goal.loop-r-init
loop-r-init c = (
  omega (arith, c.requires.0),
  draw-start c.args.h c.args.w c.args.colours.now c.args.borders.now c.requires.1,
)

-- there are 63 doubled rows at most
tall : (c : After-line) → c.loop-r.r < 63
tall c = omega (arith, c.loop-r-test.true, c.requires.0)

pub loop-r-preserved : goal.loop-r-preserved
loop-r-preserved c = (
  omega (arith, c.loop-r-test.true),
  draw-more c.args.h c.args.w c.args.colours.now c.args.borders.now c.loop-r.r
      c.line.result (tall (goal.at.loop-r-preserved c).After-line) c.requires.0.broad c.line.ensures
      c.loop-r.invariant.1,
)

pub returns : goal.returns
returns c =
    draw-end c.args.h c.args.w c.args.colours.now c.args.borders.now c.loop-r.r c.loop-r.invariant.0
    (omega (arith, c.loop-r-test.false)) c.loop-r.invariant.1
