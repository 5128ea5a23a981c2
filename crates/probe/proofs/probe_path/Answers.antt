-- An unfit call is refused; any other is answered.
use mathlib.Core.Path.{sym, ◌∙◌}
use Rattle.probe.specs.ProbeLaws.{probe-fit}
use Rattle.probe.proofs.probe_path.Goals as goal

pub put_path-requires : goal.put_path-requires
put_path-requires c =
    let f = probe-fit (sym c.fits.ensures ∙ c.if-fits.true) in
    (f.size, f.large)
