-- Each return cites its tests.
use borrow.Author.Tests.{lt-leb, le-leb}
use Rattle.probe.specs.Probe.{probe_fits}
use Rattle.probe.proofs.fits.Goals as goal

pub returns-then-cell_count-ge1 : goal.returns-then-cell_count-ge1
unfolding probe_fits
returns-then-cell_count-ge1 c = simp (← c.cell_count.ensures, le-leb _ _ c.if-cell_count-ge1.true)

pub returns-else-cell_count-ge1 : goal.returns-else-cell_count-ge1
unfolding probe_fits
returns-else-cell_count-ge1 c = simp (← c.cell_count.ensures, lt-leb _ _ c.if-cell_count-ge1.false)
