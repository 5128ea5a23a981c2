-- Planes are drawn once, and a mask for each potential unit that is asked for after another.
use mathlib.Core.Path.{◌∙◌}
use Prim.Native.Nat.{zero}
use native.Mathlib.Omega.{arith}
use lib.ListN.{length-replicate}
use Rattle.adjacent.specs.BesideLaws.{beside-gathered}
use Rattle.adjacent.specs.HomeLaws.{home-few, home-cells}
use Rattle.fitting.specs.HeldLaws.{held-planes}
use Rattle.fitting.proofs.unit.prepare.Goals.{then-name-eq0, else-name-eq0}
use Rattle.fitting.proofs.unit.prepare.Goals as goal

pub overflow_add-p : goal.overflow_add-p
overflow_add-p c = omega (arith, home-few c.requires.0)

pub returns-then-name-p : goal.returns-then-name-p
returns-then-name-p c = c.requires.1.some c.args.p c.if-name-p.true

pub draw_planes-requires : goal.draw_planes-requires
draw_planes-requires c = (c.requires.0.drawn.sized, c.requires.1.none c.if-name-eq0.true)

pub mates_of-requires : goal.mates_of-requires
mates_of-requires c =
    let k = c.requires.0 in
    (k.drawn, k.known, home-few k, home-cells k, k.grouped.group _ k.low, length-replicate 1025 zero)

pub overflow_add-p-2 : goal.overflow_add-p-2
overflow_add-p-2 c = omega (arith, home-few c.requires.0)

pub draw_mask-requires : goal.draw_mask-requires
draw_mask-requires c =
    let k = c.requires.0 in (
      k.drawn.sized,
      beside-gathered c.args.potential.now k.grouped k.known c.args.p c.mates_of.ensures,
    )

pub returns : goal.returns
returns c =
    let d = c.draw_mask.ensures in
    record {
      planes =
          elim c.if-name-eq0.branch [
            | then-name-eq0 w ↦ w.planes-is ∙ w.draw_planes.ensures
            | else-name-eq0 w ↦ w.planes-is ∙ held-planes c.requires.1 w.if-name-eq0.false
          ];
      mask = rw c.mates_of.ensures.first at d.0;
      name = d.1;
    }
