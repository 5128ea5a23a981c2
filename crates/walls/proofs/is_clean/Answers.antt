-- `is_clean` meets its contract: the borders below, and those on the right row by row.
use mathlib.Core.Path.{◌≡◌}
use Prim.Native.Nat.{ℕ, ◌+◌, ◌-◌, ◌*◌}
use native.Mathlib.Omega.{arith}
use Rattle.lists.specs.Arithmetic.{below_more}
use Rattle.rules.specs.Codes.{states_in}
use Rattle.rules.specs.Groups.{entry}
use Rattle.laws.specs.FlatLaws.{Counts, counts, Spot, spot}
use Rattle.groups.specs.Grouping.{numbers_in}
use Rattle.walls.specs.Clean.{Apart, page-clean}
use Rattle.walls.proofs.is_clean.Goals.{In-loop-y, Start}
use Rattle.walls.proofs.is_clean.Goals as goal

all : (s : Start) → Counts s.args.h s.args.w
all s = counts s.requires.0

-- the last cell of the last row, and of row y
last : (s : Start) → Spot s.args.h s.args.w (s.args.h - 1) (s.args.w - 1)
last s = spot _ _ _ _ (omega (arith, s.requires.0)) (omega (arith, s.requires.0))

end : (c : In-loop-y)
    → let a = c.args in Spot a.h a.w c.loop-y.y (a.w - 1)
end c = spot _ _ _ _ c.loop-y-test.true (omega (arith, c.requires.0))

pub overflow_sub-w : goal.overflow_sub-w
overflow_sub-w c = omega (arith, c.requires.0)

pub overflow_mul-h : goal.overflow_mul-h
overflow_mul-h c = omega (arith, all c)

pub overflow_sub-h : goal.overflow_sub-h
overflow_sub-h c = omega (arith, c.requires.0)

pub overflow_mul-h-2 : goal.overflow_mul-h-2
overflow_mul-h-2 c = omega (arith, all c)

pub count_hits-requires : goal.count_hits-requires
count_hits-requires c = (
  c.requires.1,
  omega (arith, all c),
  omega (arith, all c),
  omega (arith, all c, (last c).cell, c.requires.0),
)

pub returns-then-count_hits-ne0 : goal.returns-then-count_hits-ne0
returns-then-count_hits-ne0 c e = let z : ◌≡◌ {A = ℕ} 0 1 = cc in absurd (omega arith)

pub loop-y-init : goal.loop-y-init
loop-y-init c v l = absurd (omega arith)

pub overflow_sub-w-in-loop-y : goal.overflow_sub-w-in-loop-y
overflow_sub-w-in-loop-y c = omega (arith, c.requires.0)

pub overflow_mul-y : goal.overflow_mul-y
overflow_mul-y c = omega (arith, (end c).line, all (goal.at.overflow_mul-y c).Start)

pub overflow_mul-y-in-loop-y : goal.overflow_mul-y-in-loop-y
overflow_mul-y-in-loop-y c = omega (arith, (end c).cell, all (goal.at.overflow_mul-y-in-loop-y c).Start)

pub overflow_mul-y-in-loop-y-2 : goal.overflow_mul-y-in-loop-y-2
overflow_mul-y-in-loop-y-2 c = omega (arith, (end c).cell, all (goal.at.overflow_mul-y-in-loop-y-2 c).Start)

pub overflow_add-y : goal.overflow_add-y
overflow_add-y c = omega (arith, (end c).cell, all (goal.at.overflow_add-y c).Start)

pub overflow_sub-w-in-loop-y-2 : goal.overflow_sub-w-in-loop-y-2
overflow_sub-w-in-loop-y-2 c = omega (arith, c.requires.0)

pub count_hits-requires-in-loop-y : goal.count_hits-requires-in-loop-y
count_hits-requires-in-loop-y c = (
  c.requires.1,
  omega (arith, (end c).line, all (goal.at.count_hits-requires-in-loop-y c).Start),
  omega (arith, (end c).cell, all (goal.at.count_hits-requires-in-loop-y c).Start),
  omega (arith, (end c).cell, all (goal.at.count_hits-requires-in-loop-y c).Start, c.requires.0),
)

pub returns-then-count_hits-ne0-2 : goal.returns-then-count_hits-ne0-2
returns-then-count_hits-ne0-2 c e = let z : ◌≡◌ {A = ℕ} 0 1 = cc in absurd (omega arith)

pub loop-y-preserved : goal.loop-y-preserved
loop-y-preserved c =
    let l = c.loop-y in
    let a = c.args in
    let s = states_in a.borders.now in
    let row : ℕ → Type 0 = λ v. Apart s (entry (numbers_in a.blocks.now)) (v * (a.w - 1)) (v * a.w) (v * a.w + 1)
    (a.w - 1) in
    below_more row l.y l.invariant (c.count_hits-in-loop-y.ensures c.if-count_hits-ne0-2.false)

pub returns : goal.returns
returns c e =
    let l = c.loop-y in
    page-clean _ _ _ _ (c.count_hits.ensures c.if-count_hits-ne0.false)
    (λ y h. l.invariant y (omega arith))
