-- Both colours are tests of the array.
use Rattle.std.proofs.Common.{refl}
use Rattle.rules.specs.Codes.{colours_in}
use Rattle.reasons.proofs.scans.one_colour.Goals as goal

pub returns : goal.returns
unfolding colours_in
returns c = refl
