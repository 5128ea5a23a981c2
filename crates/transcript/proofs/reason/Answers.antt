-- `reason` meets its contract: some literals more, or the end of the line.
use borrow.Author.Rules.{rules}
use Rattle.transcript.proofs.LeftLaws.{reason-more, reason-end}
use Rattle.transcript.proofs.reason.Goals as goal

pub returns-then-from-chunk : goal.returns-then-from-chunk
returns-then-from-chunk c = λ s. reason-more s _ _ _ _ _ _ _ _ c.put_literals-chunk.ensures c.if-from-chunk.true

pub put_line-requires : goal.put_line-requires
put_line-requires c = (c.end_line.ensures.small, search rules)

pub returns : goal.returns
returns c =
    λ s.
    reason-end s _ _ _ _ _ _ _ _ c.put_literals-chunk.ensures
    c.if-from-chunk.false c.end_line.ensures
    c.put_line.ensures (search rules)
