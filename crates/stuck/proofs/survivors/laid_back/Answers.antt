-- The loop's invariant: the connections from j on are no walls.
use mathlib.Core.Path.{◌≡◌, sym, ap, ◌∙◌}
use Prim.Native.Nat.{ℕ, ◌+◌, ◌-◌, ◌*◌}
use native.Mathlib.Omega.{arith}
use lib.ListN.{get_or}
use Rattle.lists.specs.SectionLaws.{section-at, front_at}
use Rattle.rules.specs.declared.Placement.TheVariants.{Blocked}
use Rattle.shapes.specs.Raising.{ys_in, xs_in, RaisedAt}
use Rattle.stuck.specs.PlacedLaws.{border-low, back_none, back-next, back-wall}
use Rattle.stuck.specs.Survivors.{On, border_at}
use Rattle.stuck.proofs.survivors.laid_back.Goals.{After-border_at-border, In-loop-j}
use Rattle.stuck.proofs.survivors.laid_back.Goals as goal

-- the next connection is small, and on the page
small : (c : In-loop-j)
    → RaisedAt c.args.turned.now (c.loop-j.j - 1)
small c =
    c.requires.1 (c.loop-j.j - 1) (omega (arith, c.loop-j-test.true, c.loop-j.invariant.0))

on : (c : In-loop-j) → On c.args.h c.args.w (2 * c.args.y + get_or (ys_in c.args.turned.now) (c.loop-j.j - 1) 0)
    (2 * c.args.x + get_or (xs_in c.args.turned.now) (c.loop-j.j - 1) 0)
on c =
    c.requires.4 (c.loop-j.j - 1) (omega (arith, c.loop-j-test.true, c.loop-j.invariant.0))

-- the places read are those of its rows and columns
down-at : (c : In-loop-j) → let t = c.args.turned.now in
    let j = c.loop-j.j - 1 in get_or t j 0 ≡ get_or (ys_in t) j 0
down-at c = front_at 2048 _ _ (small c).place

across-at : (c : In-loop-j) → let t = c.args.turned.now in
    let j = c.loop-j.j - 1 in get_or t (2048 + j) 0 ≡ get_or (xs_in t) j 0
across-at c = section-at 2048 2048 _ _ (small c).place

pub border_at-border-requires : goal.border_at-border-requires
border_at-border-requires c = (
  c.requires.0,
  rw (
    c.from.ensures,
    c.from-in-loop-j.ensures,
    down-at (goal.at.border_at-border-requires c).In-loop-j,
    across-at (goal.at.border_at-border-requires c).In-loop-j,
  ) (on (goal.at.border_at-border-requires c).In-loop-j),
)

-- the border of the connection
border-is : (c : After-border_at-border) → let j = c.loop-j.j - 1 in
    c.border_at-border.result ≡ border_at c.args.h c.args.w (2 * c.args.y + get_or (ys_in c.args.turned.now) j 0)
    (2 * c.args.x + get_or (xs_in c.args.turned.now) j 0)
border-is c =
    rw (
      ← down-at (goal.at.After-border_at-border c).In-loop-j,
      ← across-at (goal.at.After-border_at-border c).In-loop-j,
    )
    (rw (c.from.ensures, c.from-in-loop-j.ensures) at c.border_at-border.ensures)

pub bounds-borders-border : goal.bounds-borders-border
bounds-borders-border c =
    omega (
      arith,
      border-is (goal.at.bounds-borders-border c).After-border_at-border,
      border-low (on (goal.at.bounds-borders-border c).In-loop-j) c.requires.0,
    )

pub returns-then-borders-border-eq1 : goal.returns-then-borders-border-eq1
returns-then-borders-border-eq1 c =
    let l = c.loop-j in
    let e = border-is (goal.at.returns-then-borders-border-eq1 c).After-border_at-border in
    ap Blocked e
    ∙ sym
    (l.invariant.1
    ∙ back-wall c.args.h c.args.w c.args.borders.now c.args.turned.now c.args.y
    c.args.x l.j c.loop-j-test.true
    (ap (λ (b : ℕ). get_or c.args.borders.now b 0) (sym e) ∙ c.if-borders-border-eq1.true))

pub loop-j-preserved : goal.loop-j-preserved
loop-j-preserved c =
    let l = c.loop-j in
    let e = border-is (goal.at.loop-j-preserved c).After-border_at-border in (
      omega (arith, l.invariant.0),
      l.invariant.1
          ∙ back-next c.args.h c.args.w c.args.borders.now c.args.turned.now
          c.args.y c.args.x l.j c.loop-j-test.true
          (λ q. c.if-borders-border-eq1.false (ap (λ (b : ℕ). get_or c.args.borders.now b 0) e ∙ q)),
    )

pub returns : goal.returns
returns c =
    let l = c.loop-j in
    let e : l.j ≡ 0 = omega (arith, c.loop-j-test.false) in
    sym
    (l.invariant.1
    ∙ back_none c.args.h c.args.w c.args.borders.now c.args.turned.now c.args.y
    c.args.x e)
