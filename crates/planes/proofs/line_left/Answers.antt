-- The loop's invariant: the word has the origins at which the connections before j are clear.
use mathlib.Core.Path.{◌≡◌, ◌∙◌}
use Prim.Native.Nat.{◌+◌}
use native.Mathlib.Omega.{arith}
use lib.ListN.{get_or}
use Rattle.lists.specs.SectionLaws.{section-at, front_at}
use Rattle.shapes.specs.Raising.{ys_in, xs_in, RaisedAt}
use Rattle.planes.specs.WordLaws.{clear_none, clear-more, word-left-none}
use Rattle.planes.proofs.line_left.Goals.{Else-acc-eq0}
use Rattle.planes.proofs.line_left.Goals as goal

pub loop-j-init : goal.loop-j-init
loop-j-init c = (
  omega arith,
  clear_none c.args.planes.now c.args.y c.args.turned.now c.args.word,
)

pub returns-then-acc-eq0 : goal.returns-then-acc-eq0
returns-then-acc-eq0 c =
    word-left-none c.args.planes.now c.args.y c.args.turned.now c.args.word
    c.args.n c.loop-j.j c.loop-j.invariant.1 c.loop-j.invariant.0 c.if-acc-eq0.true

-- the next connection is small
small : (c : Else-acc-eq0)
    → RaisedAt c.args.turned.now c.loop-j.j
small c = c.requires.1 c.loop-j.j c.loop-j-test.true

-- the places read are those of its rows and columns
down-at : (c : Else-acc-eq0) → let t = c.args.turned.now in
    let j = c.loop-j.j in get_or t j 0 ≡ get_or (ys_in t) j 0
down-at c = front_at 2048 _ _ (small c).place

across-at : (c : Else-acc-eq0) → let t = c.args.turned.now in
    let j = c.loop-j.j in get_or t (2048 + j) 0 ≡ get_or (xs_in t) j 0
across-at c = section-at 2048 2048 _ _ (small c).place

pub step-acc-requires : goal.step-acc-requires
step-acc-requires c = (
  c.requires.0,
  rw (down-at (goal.at.step-acc-requires c).Else-acc-eq0) (small (goal.at.step-acc-requires c).Else-acc-eq0).row,
  rw (across-at (goal.at.step-acc-requires c).Else-acc-eq0) (small (goal.at.step-acc-requires c).Else-acc-eq0).column,
)

pub loop-j-preserved : goal.loop-j-preserved
loop-j-preserved c = (
  omega (arith, c.loop-j-test.true),
  rw (
    ← down-at (goal.at.loop-j-preserved c).Else-acc-eq0,
    ← across-at (goal.at.loop-j-preserved c).Else-acc-eq0,
  ) c.step-acc.ensures
      ∙ clear-more c.args.planes.now c.args.y c.args.turned.now c.args.word c.loop-j.j
      c.loop-j.invariant.1,
)
