-- The parents of a page: the flags, the pass over them, and the cells of its list, put together.
use Prim.Native.Nat.{◌*◌}
use native.Mathlib.Nat.{mul-le-mul_right}
use native.Mathlib.Omega.{arith}
use Rattle.laws.specs.FlatLaws.{counts}
use Rattle.groups.specs.Kinds.{joins_in}
use Rattle.groups.specs.Ties.{flag_at, tied_left, above_at}
use Rattle.groups.specs.ScanLaws.{scan-flags}
use Rattle.groups.specs.TieLaws.{scan-rep, scan-labels}
use Rattle.groups.proofs.linking.link.Goals as goal

pub overflow_mul-h : goal.overflow_mul-h
overflow_mul-h c = omega (arith, counts c.requires.0)

pub later_rows-k-requires : goal.later_rows-k-requires
later_rows-k-requires c =
    let f = c.first_row.ensures in (
      c.requires.0.columns,
      omega (arith, mul-le-mul_right c.args.w c.requires.0.rows),
      (counts c.requires.0).cells,
      f.0,
      c.requires.2,
      f.1 _ _,
    )

pub settle-requires : goal.settle-requires
settle-requires c =
    let r = c.later_rows-k.ensures in
    let n = (counts c.requires.0).cells in
    (omega arith, λ i l. ((r.3.few i l).0, omega (arith, (r.3.few i l).1)), r.1)

pub returns : goal.returns
unfolding flag_at
returns c =
    let a = c.args in
    let r = c.later_rows-k.ensures in
    let link = joins_in a.kind a.h a.w a.colours.now a.borders.now in
    let lefts = c.across.ensures in
    let aboves = c.down.ensures in
    let m = scan-flags (a.h * a.w) a.w _ _ (tied_left a.h a.w link) (above_at a.h a.w link)
    lefts.at aboves.at r.3 in (
      record {
        forest = c.settle.ensures.0;
        rep =
            rw (← scan-labels a.h a.w link c.requires.0 _ _ _ r.1 m)
            (c.settle.ensures.1 (a.h * a.w) _ (counts c.requires.0).cells (λ i l. (r.3.few i l).1)
            (scan-rep a.h a.w link c.requires.0 _ _ _ r.1 m));
      },
      r.2,
    )
