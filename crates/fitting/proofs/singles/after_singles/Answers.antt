-- The loop's invariant: the units before u fit.
use mathlib.Core.Bool.{Bool}
use Prim.Native.Nat.{ℕ}
use Rattle.rules.specs.Codes.{states_in, unclued}
use Rattle.groups.specs.Grouping.{count_in}
use Rattle.adjacent.specs.HomeLaws.{home_at}
use Rattle.fitting.specs.FirstStuck.{fits_unit}
use Rattle.fitting.specs.FirstStuckLaws.{passed_start, passed-next, passed-all}
use Rattle.fitting.proofs.singles.after_singles.Goals.{Start}
use Rattle.fitting.proofs.singles.after_singles.Goals as goal

-- the test of a unit
abbrev test : Start → ℕ → Bool
test s = fits_unit (unclued s.args.h s.args.w s.args.colours.now) (states_in s.args.borders.now)

pub all_near-sure-requires : goal.all_near-sure-requires
all_near-sure-requires c = (λ p l. home_at c.requires.0 p l, c.requires.1)

pub loop-u-init : goal.loop-u-init
loop-u-init c =
    (passed_start (test (goal.at.loop-u-init c).Start) (count_in c.args.units.now), c.all_near-sure.ensures.1)

pub single_fits-requires : goal.single_fits-requires
single_fits-requires c = (
  c.requires.0,
  rw c.count_of-count.ensures at c.loop-u-test.true,
  c.all_near-sure.ensures.0,
  c.loop-u.invariant.1,
)

pub loop-u-preserved : goal.loop-u-preserved
loop-u-preserved c =
    let e = c.single_fits.ensures in (
      passed-next c.loop-u.invariant.0 (rw c.count_of-count.ensures at c.loop-u-test.true)
          (e.0 c.if-not-single_fits.false),
      e.1,
    )

pub returns-then-not-single_fits : goal.returns-then-not-single_fits
returns-then-not-single_fits c = (c.loop-u.invariant.0, c.single_fits.ensures.1)

pub returns : goal.returns
returns c =
    let e = c.count_of-count.ensures in
    (rw e (passed-all c.loop-u.invariant.0 (rw e at c.loop-u-test.false)), c.loop-u.invariant.1)
