-- `stack` meets its contract: all entries are read.
use Rattle.std.proofs.Common.{arith}
use Rattle.lists.specs.TableLaws.{table_is}
use Rattle.image.proofs.reading.stack.Goals as goal

pub returns : goal.returns
returns c =
    let r = c.loop-i in
    table_is 1984 _ 0 r.place-items c.loop-i-test.array_long (λ j l. r.invariant j (omega arith))
