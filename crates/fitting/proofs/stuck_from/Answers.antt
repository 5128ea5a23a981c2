-- The loop's invariant: the answer is the first from u on that does not fit.
use mathlib.Core.Path.{sym, ◌∙◌}
use Rattle.fitting.specs.HeldLaws.{held_start}
use Rattle.fitting.specs.FirstStuckLaws.{passed-done, passed_here, passed-next}
use Rattle.fitting.proofs.stuck_from.Goals as goal

pub loop-u-init : goal.loop-u-init
loop-u-init c = (
  c.requires.1,
  c.requires.2,
  held_start c.args.h c.args.w c.args.colours.now c.args.borders.now c.args.potential.now,
)

pub fits_at-requires : goal.fits_at-requires
fits_at-requires c =
    let i = c.loop-u.invariant in
    (c.requires.0, rw c.count_of-u-end.ensures at c.loop-u-test.true, i.1, i.2)

pub loop-u-preserved : goal.loop-u-preserved
loop-u-preserved c =
    let e = c.fits_at.ensures in (
      passed-next c.loop-u.invariant.0 (rw c.count_of-u-end.ensures at c.loop-u-test.true)
          (sym e.0 ∙ c.if-not-fits_at.false),
      e.1,
      e.2,
    )

pub returns-then-not-fits_at : goal.returns-then-not-fits_at
returns-then-not-fits_at c =
    passed_here c.loop-u.invariant.0 (rw c.count_of-u-end.ensures at c.loop-u-test.true)
    (sym c.fits_at.ensures.0 ∙ c.if-not-fits_at.true)

pub returns : goal.returns
returns c =
    let e = c.count_of-u-end.ensures in
    passed-done c.loop-u.invariant.0 (rw e at c.loop-u-test.false)
