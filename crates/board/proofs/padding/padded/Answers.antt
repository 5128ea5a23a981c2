-- `padded` meets its contract: what is copied stands before what is left of the filler.
use Rattle.std.proofs.lemmas.List.{drop-replicate}
use Rattle.board.proofs.padding.padded.Goals as goal

pub returns : goal.returns
returns g c = rw (c.copy_from_slice.ensures.after, drop-replicate)
