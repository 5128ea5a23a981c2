-- Whether the cells are joined to those left of them. The loop has passed y rows; the last row comes after it.
use mathlib.Core.Path.{◌≡◌}
use Prim.Native.Nat.{◌+◌, ◌-◌, ◌<◌}
use native.Mathlib.Nat.{zero-mul}
use native.Mathlib.Omega.{arith}
use Rattle.laws.specs.FlatLaws.{spot}
use Rattle.groups.specs.TieLaws.{tie-flags-none}
use Rattle.groups.proofs.linking.across.Goals as goal

pub loop-y-init : goal.loop-y-init
loop-y-init c = rw (zero-mul c.args.w) (tie-flags-none _ _ c.requires.1)

pub row-requires : goal.row-requires
row-requires c =
    let y = c.loop-y.y in
    let below : y + 1 < c.args.h = omega arith in
    let k = spot c.args.h c.args.w y 0 (omega arith) c.requires.0.columns in
    let m = k.lower below in
    (c.requires.0, omega arith, omega arith, omega arith, omega (arith, k.next), c.loop-y.invariant)

pub row-requires-2 : goal.row-requires-2
row-requires-2 c =
    let l = c.loop-y in
    let e : l.y ≡ c.args.h - 1 = omega arith in
    let k : c.args.w - 1 < c.args.w = omega (arith, c.requires.0.columns) in
    let m = spot c.args.h c.args.w (c.args.h - 1) (c.args.w - 1) (omega (arith, c.requires.0.rows)) k in
    (c.requires.0, omega (arith, c.requires.0.rows), omega arith, omega arith, m.cell, rw e at l.invariant)

pub returns : goal.returns
returns c =
    let e : c.args.h - 1 + 1 ≡ c.args.h = omega (arith, c.requires.0.rows) in
    rw e at c.row-2.ensures
