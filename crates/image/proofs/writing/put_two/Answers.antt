-- `put_two` meets its contract: the two stores are those of `sets`.
use Rattle.std.proofs.Common.{add-one}
use Rattle.image.specs.Image.{two_bytes}
use Rattle.image.proofs.writing.put_two.Goals as goal

pub returns : goal.returns
unfolding two_bytes
returns c = rw (add-one, c.to_le_bytes.ensures)
