-- `put_tally` meets its contract: its stores are those of the six bytes.
use mathlib.Core.Path.{◌∙◌}
use Rattle.lists.specs.Lists.{flat_map}
use Rattle.image.specs.Image.{two_bytes}
use Rattle.image.proofs.writing.put_tally.Goals as goal

pub returns : goal.returns
unfolding flat_map two_bytes
returns c =
    c.put_two-3.ensures
    ∙ rw (c.put_two-2.ensures, c.put_two.ensures)
