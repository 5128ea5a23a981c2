-- `with_word` meets its contract: the word is copied behind the line's bytes.
use native.Mathlib.Omega.{arith}
use Rattle.print.specs.Lines.{written-copied}
use Rattle.print.proofs.Line.with_word.Goals as goal

pub returns : goal.returns
returns c = written-copied _ _ _ _ _ _ c.copy_from_slice.ensures.after (omega arith) (omega arith) (omega arith)
