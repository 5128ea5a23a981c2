-- `undo_refusal` meets its contract: each return rewrites with its test.
use borrow.Author.Tests.{eq-eqb, ne_eqb}
use Rattle.board.specs.Board.{undo_refusal}
use Rattle.board.proofs.refusals.undo_refusal.Goals as goal

pub returns-then-bare : goal.returns-then-bare
unfolding undo_refusal
returns-then-bare c = rw (eq-eqb _ 0 c.if-bare.true)

pub returns : goal.returns
unfolding undo_refusal
returns c = rw (ne_eqb _ 0 c.if-bare.false)
