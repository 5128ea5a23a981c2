-- `word_line` meets its contract: a line that grew out of nothing holds what was added.
use native.Mathlib.Omega.{arith}
use Rattle.print.proofs.word_line.Goals as goal

pub returns : goal.returns
returns c =
    let w = rw c.empty.ensures at c.with_word.ensures in
    record { written = w; small = omega (arith, w.next) }
