-- `step` meets its contract: the code says which call it is.
use borrow.Author.Tests.{eq-eqb, ne_eqb}
use Rattle.image.specs.Series.{code_call}
use Rattle.image.proofs.series.step.Goals as goal

pub returns-then-code-eq-UNDO : goal.returns-then-code-eq-UNDO
unfolding code_call
returns-then-code-eq-UNDO c = rw (eq-eqb _ 65535 c.if-code-eq-UNDO.true) c.undone.ensures

pub returns : goal.returns
unfolding code_call
returns c = rw (ne_eqb _ 65535 c.if-code-eq-UNDO.false, ← c.from.ensures, ← c.from-2.ensures) c.decided.ensures
