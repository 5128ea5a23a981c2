-- `put_line` meets its contract: the bytes up to the count are copied.
use native.Mathlib.Omega.{arith}
use lib.Seq.{length-take-le}
use borrow.Author.Rules.{rules}
use Rattle.print.specs.Answers.{text_of}
use Rattle.print.specs.Lines.{written-copied}
use Rattle.print.proofs.put_line.Goals as goal

pub returns : goal.returns
unfolding text_of
returns c =
    let n = length-take-le c.args.line.count c.args.line.bytes (search rules) in
    written-copied _ _ _ _ _ _ c.copy_from_slice.ensures.after (omega arith) (omega arith) (omega arith)
