-- More laws of the definitions, by cases; no answer cites them.
use Rattle.std.specs.Prelude.{Ok, Err}
use Rattle.board.specs.Board.{Outcome}
use Rattle.board.specs.declared.Refusal.{Refusal}
use Rattle.calls.specs.declared.Answer.{Answer}
use Rattle.calls.specs.Answers.{then_answer}
use Rattle.calls.specs.NumberLaws.{InRange, then-range}

-- NumberLaws: the answer a where the outcome is done, otherwise the refusal
pub ended_by_lem : (o : Outcome) (a : Answer) → InRange a → InRange (then_answer o a)
ended_by_lem = then-range
