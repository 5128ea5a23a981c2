-- `decide_refusal` meets its contract: each return cites the law of its case.
use native.Mathlib.Omega.{arith}
use Rattle.board.specs.Cases.{refusal-border, refusal-none, refusal-taken}
use Rattle.board.proofs.refusals.decide_refusal.Goals as goal

pub returns-then-beyond : goal.returns-then-beyond
returns-then-beyond c = refusal-border _ _ _ c.if-beyond.true

pub returns-then-borders-n-ne0 : goal.returns-then-borders-n-ne0
returns-then-borders-n-ne0 c = refusal-taken _ _ _ (omega (arith, c.if-beyond.false)) c.if-borders-n-ne0.true

pub returns : goal.returns
returns c = refusal-none _ _ _ (omega (arith, c.if-beyond.false)) c.if-borders-n-ne0.false
