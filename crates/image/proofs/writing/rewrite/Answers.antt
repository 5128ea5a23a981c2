-- `rewrite` meets its contract: its four stores are those of `image_written`.
use mathlib.Core.Path.{◌∙◌}
use Rattle.image.specs.Image.{image_written}
use Rattle.image.proofs.writing.rewrite.Goals as goal

pub returns : goal.returns
unfolding image_written
returns c =
    c.put_tally.ensures
    ∙ rw (c.put_two-2.ensures, c.put_two.ensures)
