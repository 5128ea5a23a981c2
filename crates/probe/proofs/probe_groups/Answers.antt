-- An unfit call is refused; any other is answered.
use mathlib.Core.Path.{sym, ◌∙◌}
use native.Mathlib.Omega.{arith}
use Rattle.groups.specs.GroupingLaws.{filled-array}
use Rattle.probe.specs.ProbeLaws.{probe-fit, done}
use Rattle.probe.proofs.probe_groups.Goals as goal

pub grouped-grouping-requires : goal.grouped-grouping-requires
grouped-grouping-requires c = (probe-fit (sym c.fits.ensures ∙ c.if-fits.true)).size

pub hand_out_grouping-requires : goal.hand_out_grouping-requires
hand_out_grouping-requires c =
    let f = probe-fit (sym c.fits.ensures ∙ c.if-fits.true) in
    omega (arith, f.large)

pub returns-then-fits : goal.returns-then-fits
returns-then-fits c =
    done (sym c.fits.ensures ∙ c.if-fits.true)
    (rw (filled-array _ c.grouped-grouping.ensures) at c.hand_out_grouping.ensures)
