-- The test is the definition's.
use borrow.Author.Tests.{eq-eqb, ne_eqb}
use Rattle.planes.specs.Planes.{clear_at}
use Rattle.planes.proofs.clear.Goals.{then-alike, else-alike}
use Rattle.planes.proofs.clear.Goals as goal

pub returns : goal.returns
unfolding clear_at
returns c =
    elim c.if-alike.branch [
      | then-alike w ↦ rw (c.from.ensures, w.from-is, eq-eqb _ _ w.if-alike.true)
      | else-alike w ↦ rw (c.from.ensures, w.from-is, ne_eqb _ _ w.if-alike.false)
    ]
