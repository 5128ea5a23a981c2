-- The root of a cell. Each turn goes to a cell of the same root, no later; the measure is the cell's number.
use mathlib.Core.Path.{refl, sym, ◌∙◌}
use native.Mathlib.Omega.{arith}
use borrow.Author.Rules.{rules}
use Rattle.groups.proofs.linking.find.Goals as goal

pub loop-x-init : goal.loop-x-init
loop-x-init c = (search rules, λ n L l x. refl)

pub loop-x-smaller : goal.loop-x-smaller
loop-x-smaller c = omega (arith, c.requires.1.down c.loop-x.x)

pub loop-x-preserved : goal.loop-x-preserved
loop-x-preserved c =
    let x = c.loop-x.x in
    let d = c.requires.1.down x in
    rw c.from-x.ensures
    (omega arith, λ n L l r. r.same x (omega arith) ∙ c.loop-x.invariant.1 n L l r)

pub returns : goal.returns
returns c =
    let x = c.loop-x.x in
    let e = rw c.from.ensures at c.loop-x-test.false in (
      search rules,
      e,
      λ n L l r. sym (r.root x (omega arith) e) ∙ c.loop-x.invariant.1 n L l r,
    )
