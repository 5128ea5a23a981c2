-- `shapes::least` meets its contract. The loop's invariant: the best is the first in order of the images passed.
use mathlib.Core.Path.{sym, ap, ◌∙◌}
use native.Mathlib.Omega.{arith}
use Rattle.shapes.specs.Pairs.{point_of}
use Rattle.shapes.specs.PairLaws.{turns-read, in-order}
use Rattle.shapes.specs.SpotLaws.{least-one, earlier_more}
use Rattle.shapes.proofs.least.Goals as goal

pub loop-i-init : goal.loop-i-init
loop-i-init c = (
  omega arith,
  c.requires.1.some,
  ap point_of c.moved-best.ensures
      ∙ (turns-read c.args.row c.signs_at-s.ensures _ _ ∙ sym (least-one _ _ _)),
)

pub loop-i-preserved : goal.loop-i-preserved
loop-i-preserved c =
    let m = c.moved in
    let l = c.loop-i in (
      omega arith,
      omega (arith, c.cell_count-n.ensures),
      earlier_more _ _ _ l.i m.result l.best c.min-best.result l.invariant.0
          (ap point_of m.ensures ∙ turns-read c.args.row c.signs_at-s.ensures _ _)
          l.invariant.2 (rw (in-order m.result l.best) at c.min-best.ensures),
    )
