-- `put` meets its contract: the line is the chunk.
use mathlib.Core.Path.{refl}
use native.Mathlib.Omega.{arith}
use borrow.Author.Rules.{rules}
use Rattle.transcript.proofs.LeftLaws.{put-goes}
use Rattle.transcript.proofs.put.Goals as goal

pub returns : goal.returns
returns c =
    λ s m text h.
    put-goes s _ h c.put_line.ensures (search rules) refl (omega arith)
