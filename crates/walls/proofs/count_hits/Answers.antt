-- `count_hits` meets its contract: as long as none is counted, the borders passed are no such walls.
use mathlib.Core.Path.{◌≡◌, sym, ◌∙◌}
use mathlib.Core.Bool.{false, ◌&&◌}
use Prim.Native.Nat.{◌<◌, ◌+◌}
use native.Mathlib.Omega.{arith}
use lib.Dec.{eqb}
use lib.ListN.{get_or}
use Rattle.lists.specs.CountLaws.{no-bit, bit-under}
use Rattle.lists.specs.Arithmetic.{below_more}
use Rattle.rules.specs.Codes.{states_in}
use Rattle.rules.specs.Groups.{entry}
use Rattle.laws.specs.CodeLaws.{state-wall}
use Rattle.groups.specs.Grouping.{numbers_in}
use Rattle.walls.specs.Breaches.{is_breach}
use Rattle.walls.proofs.count_hits.Goals.{After-hit-hits}
use Rattle.walls.proofs.count_hits.Goals as goal

-- what was counted is at most 1
one : (c : After-hit-hits) → c.hit-hits.result < 2
one c =
    let a = c.args in
    let i = c.loop-i.i in
    let ids = numbers_in a.blocks.now in
    rw c.hit-hits.ensures
    (bit-under (eqb (get_or a.borders.now (a.at + i) 0) 1 && eqb (get_or ids (a.c + i) 0) (get_or ids (a.d + i) 0)))

-- and 0 only where there is no such wall
none : (c : After-hit-hits) → c.hit-hits.result ≡ 0
    → let a = c.args in
    let i = c.loop-i.i in
    is_breach (states_in a.borders.now) (entry (numbers_in a.blocks.now)) (a.c + i)
    (record { border = a.at + i; to = a.d + i })
    ≡ false
unfolding is_breach entry
none c e =
    let a = c.args in
    let i = c.loop-i.i in
    let ids = numbers_in a.blocks.now in
    rw state-wall
    (no-bit (eqb (get_or a.borders.now (a.at + i) 0) 1 && eqb (get_or ids (a.c + i) 0) (get_or ids (a.d + i) 0))
    (sym c.hit-hits.ensures ∙ e))

pub loop-i-init : goal.loop-i-init
loop-i-init c = (omega arith, λ e j l. absurd (omega arith))

pub overflow_add-at : goal.overflow_add-at
overflow_add-at c = omega (arith, c.requires)

pub bounds-borders-at : goal.bounds-borders-at
bounds-borders-at c = omega (arith, c.requires)

pub overflow_add-c : goal.overflow_add-c
overflow_add-c c = omega (arith, c.requires)

pub offset_bounds-blocks-c : goal.offset_bounds-blocks-c
offset_bounds-blocks-c c = omega (arith, c.requires)

pub bounds-blocks-c : goal.bounds-blocks-c
bounds-blocks-c c = omega (arith, c.requires)

pub overflow_add-d : goal.overflow_add-d
overflow_add-d c = omega (arith, c.requires)

pub offset_bounds-blocks-d : goal.offset_bounds-blocks-d
offset_bounds-blocks-d c = omega (arith, c.requires)

pub bounds-blocks-d : goal.bounds-blocks-d
bounds-blocks-d c = omega (arith, c.requires)

pub overflow_add-hits : goal.overflow_add-hits
overflow_add-hits c = omega (arith, one c, c.loop-i.invariant.0, c.requires)

pub loop-i-preserved : goal.loop-i-preserved
loop-i-preserved c =
    let l = c.loop-i in (
      omega (arith, one c, l.invariant.0),
      λ e. below_more _ l.i (l.invariant.1 (omega (arith, e))) (none c (omega (arith, e))),
    )

pub returns : goal.returns
returns c e j l = c.loop-i.invariant.1 e j (omega arith)
