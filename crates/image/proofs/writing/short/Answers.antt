-- `short` meets its contract, which is its test.
use mathlib.Core.Path.{refl}
use Rattle.image.specs.Image.{is_short}
use Rattle.image.proofs.writing.short.Goals as goal

pub returns : goal.returns
unfolding is_short
returns c = refl
