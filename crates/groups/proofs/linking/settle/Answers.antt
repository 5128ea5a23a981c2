-- The cells of the list are joined to those left of them. The loop has passed some of them.
use mathlib.Core.Path.{◌≡◌, ◌∙◌}
use Prim.Native.Nat.{◌≤◌, ◌<◌}
use native.Mathlib.Numerals.{add-one}
use native.Mathlib.Omega.{arith}
use lib.ListN.{length, get_or, take}
use lib.Seq.{get_or-take, length-take-le}
use Rattle.rules.specs.Groups.{entry}
use Rattle.groups.specs.Ties.{joined}
use Rattle.groups.proofs.linking.settle.Goals.{After-from-c, Start}
use Rattle.groups.proofs.linking.settle.Goals as goal

-- the list's length
size : (c : Start) → let k = c.args.k in length (take k c.args.list.now) ≡ k
size c = length-take-le c.args.k c.args.list.now (omega arith)

-- the cell that the loop has come to
is : (c : After-from-c) → let i = c.loop-cell.cell-index in
    (i < c.args.k) × (c.from-c.result ≡ get_or c.args.list.now i 0)
is c =
    let i = c.loop-cell.cell-index in
    let h : i < c.args.k = omega (arith, size (goal.at.After-from-c c).Start, c.loop-cell-test.true) in
    (h, c.from-c.ensures ∙ get_or-take c.args.k c.args.list.now i 0 (omega arith))

at : (c : After-from-c) → (1 ≤ c.from-c.result) × (c.from-c.result < 1024)
at c = rw (is c).1 (c.requires.1 c.loop-cell.cell-index (is c).0)

pub loop-cell-init : goal.loop-cell-init
unfolding joined
loop-cell-init c = (c.requires.2, λ n L h f r. r)

pub overflow_sub-c : goal.overflow_sub-c
overflow_sub-c c = omega (arith, at (goal.at.overflow_sub-c c).After-from-c)

pub join-requires : goal.join-requires
join-requires c =
    let m = at (goal.at.join-requires c).After-from-c in
    (omega arith, omega arith, c.loop-cell.invariant.0)

pub loop-cell-preserved : goal.loop-cell-preserved
unfolding joined entry
loop-cell-preserved c =
    let l = c.loop-cell in
    let e = is (goal.at.loop-cell-preserved c).After-from-c in (
      c.join.ensures.0,
      λ n L h f r.
          let d = f l.cell-index e.0 in
          rw (add-one l.cell-index)
          (rw e.1 at (c.join.ensures.1 n _ h (omega (arith, e.1)) (omega (arith, e.1)) (l.invariant.1 n L h f r))),
    )

pub returns : goal.returns
returns c =
    let l = c.loop-cell in
    let e : l.cell-index ≡ c.args.k = omega (arith, size (goal.at.returns c).Start) in
    (l.invariant.0, λ n L h f r. rw e at (l.invariant.1 n L h f r))
