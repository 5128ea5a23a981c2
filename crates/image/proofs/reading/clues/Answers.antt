-- `clues` meets its contract: all clues are read.
use Rattle.std.proofs.Common.{pos, arith}
use Rattle.lists.specs.TableLaws.{table_is}
use Rattle.image.proofs.reading.clues.Goals as goal

pub returns : goal.returns
returns c =
    let r = c.loop-i in
    table_is 1024 _ (pos 0) r.place-items r.invariant.0 (λ j l. r.invariant.1 j (omega arith))
