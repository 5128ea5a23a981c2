-- `shapes::joints` meets its contract. The loop's invariant: the outline has the connections of the cells passed.
use mathlib.Core.Path.{◌∙◌}
use Prim.Native.Nat.{◌<◌}
use native.Mathlib.Omega.{arith}
use Rattle.rules.specs.Groups.{entry}
use Rattle.groups.specs.Grouping.{numbers_in}
use Rattle.shapes.specs.JointLaws.{joining-none, joining-more, joining-all, row_read, column-read, unit-stays}
use Rattle.shapes.specs.Outlines.{cell_count}
use Rattle.shapes.specs.PartLaws.{unit-bounds}
use Rattle.shapes.proofs.connections.joints.Goals as goal

pub loop-i-init : goal.loop-i-init
loop-i-init c = (omega arith, joining-none _ _ (entry (numbers_in c.args.units.now)) _ _)

pub joints_at-k-requires : goal.joints_at-k-requires
joints_at-k-requires c =
    let l = c.loop-i in
    let low : l.i < cell_count c.args.outline.now = omega (arith, c.cell_count-n.ensures) in
    let p = unit-bounds l.i c.requires low in
    let few : l.i < 1024 = omega (arith, c.requires.spotted.most) in
    let y = c.from.ensures ∙ row_read l.invariant.1.only l.i few in
    let x = c.from-in-loop-i.ensures ∙ column-read l.invariant.1.only l.i few in (
      c.requires.sized,
      c.requires.long,
      rw y p.0,
      rw x p.1,
      record {
        long = l.invariant.1.only.long ∙ c.requires.spotted.long;
        space = omega (arith, l.invariant.1.few, c.requires.spotted.most);
      },
    )

pub loop-i-preserved : goal.loop-i-preserved
loop-i-preserved c =
    let l = c.loop-i in
    let low : l.i < cell_count c.args.outline.now = omega (arith, c.cell_count-n.ensures) in
    let few : l.i < 1024 = omega (arith, c.requires.spotted.most) in
    let y = c.from.ensures ∙ row_read l.invariant.1.only l.i few in
    let x = c.from-in-loop-i.ensures ∙ column-read l.invariant.1.only l.i few in (
      omega arith,
      joining-more _ _ (entry (numbers_in c.args.units.now)) _ l.i l.invariant.1 y x
          (rw x (unit-bounds l.i c.requires low).1) c.joints_at-k.ensures,
    )

pub returns : goal.returns
returns c =
    let l = c.loop-i in (
      unit-stays c.requires l.invariant.1.only l.k,
      joining-all c.requires l.invariant.0 (omega (arith, c.cell_count-n.ensures)) l.invariant.1,
    )
