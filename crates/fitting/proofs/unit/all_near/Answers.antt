-- The loop's invariant: each potential unit before p has an adjacent one.
use mathlib.Core.Path.{◌≡◌, ap, ◌∙◌}
use mathlib.Core.Bool.{not}
use native.Mathlib.Omega.{arith}
use Rattle.groups.specs.Grouping.{count_in}
use Rattle.fitting.specs.HeldLaws.{adjoined-none, adjoined-more, mate-found}
use Rattle.fitting.proofs.unit.all_near.Goals as goal

pub loop-p-init : goal.loop-p-init
loop-p-init c = (adjoined-none c.args.h c.args.w c.args.colours.now c.args.borders.now, c.requires.1)

pub near_mate-requires : goal.near_mate-requires
near_mate-requires c =
    (c.requires.0 c.loop-p.p (rw c.count_of-p-end.ensures at c.loop-p-test.true), c.loop-p.invariant.1)

pub loop-p-preserved : goal.loop-p-preserved
loop-p-preserved c =
    let m = c.near_mate.ensures in (
      adjoined-more c.loop-p.invariant.0
          (mate-found c.near_mate.result m.0 (c.is_none.ensures ∙ ap not c.if-is_none.false)).1,
      m.1,
    )

pub returns : goal.returns
returns c =
    let e : c.loop-p.p ≡ count_in c.args.potential.now =
    omega (arith, c.loop-p-test.false, c.count_of-p-end.ensures) in
    (λ d. rw e at c.loop-p.invariant.0, c.loop-p.invariant.1)
