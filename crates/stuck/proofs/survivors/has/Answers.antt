-- The digit of the shifted word.
use mathlib.Core.Path.{refl}
use Rattle.planes.specs.Bits.{bit_at}
use Rattle.stuck.proofs.survivors.has.Goals as goal

pub returns : goal.returns
unfolding bit_at
returns c = refl
