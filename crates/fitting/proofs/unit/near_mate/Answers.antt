-- A mate is kept from before, or one is asked for and kept.
use Prim.Native.Nat.{◌-◌}
use native.Mathlib.Omega.{arith}
use Rattle.adjacent.specs.HomeLaws.{home-few, home-cells}
use Rattle.fitting.specs.HeldLaws.{nearby-more}
use Rattle.fitting.proofs.unit.near_mate.Goals as goal

pub offset_bounds-near-p : goal.offset_bounds-near-p
offset_bounds-near-p c = omega (arith, home-few c.requires.0)

pub bounds-near-p : goal.bounds-near-p
bounds-near-p c = omega (arith, home-few c.requires.0, c.requires.1.long)

pub returns-then-kept-gt0 : goal.returns-then-kept-gt0
returns-then-kept-gt0 c =
    let n = c.from-kept in (
      c.requires.1.some c.args.p (n.result - 1) (omega (arith, n.ensures, c.if-kept-gt0.true)),
      c.requires.1,
    )

pub some_mate-requires : goal.some_mate-requires
some_mate-requires c =
    let k = c.requires.0 in
    (k.drawn, k.known, home-few k, home-cells k, k.grouped.group _ k.low)

pub returns-in_err-q : goal.returns-in_err-q
returns-in_err-q c = (rw c.from_residual.ensures c.in_err-q.ensures, c.requires.1)

pub overflow_add-near : goal.overflow_add-near
overflow_add-near c = omega (arith, c.in_ok-q.ensures.0)

pub overflow_cast-near : goal.overflow_cast-near
overflow_cast-near c = omega (arith, c.in_ok-q.ensures.0)

pub offset_bounds-near-p-2 : goal.offset_bounds-near-p-2
offset_bounds-near-p-2 c = omega (arith, home-few c.requires.0)

pub bounds-near-p-2 : goal.bounds-near-p-2
bounds-near-p-2 c = omega (arith, home-few c.requires.0)

pub returns : goal.returns
returns c =
    let m = c.in_ok-q.ensures.1 in
    (m, nearby-more c.requires.1 c.args.p _ (home-few c.requires.0) m)
