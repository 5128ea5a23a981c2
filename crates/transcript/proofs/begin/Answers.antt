-- `begin` meets its contract: the first line is put, and the rest is by the judgement.
use mathlib.Core.Path.{sym, ap}
use mathlib.Core.List.{List, ◌++◌}
use Prim.Native.Nat.{ℕ}
use native.Mathlib.Omega.{arith}
use borrow.Author.Rules.{rules}
use Rattle.page.specs.Places.{judged_of}
use Rattle.print.specs.Answers.{answers_word}
use Rattle.transcript.specs.Left.{left_at, steps_at}
use Rattle.transcript.proofs.LeftLaws.{put-goes, refused-left, accepted-left}
use Rattle.transcript.proofs.begin.Goals as goal

pub put_line-count-requires : goal.put_line-count-requires
put_line-count-requires c = (c.answers_line.ensures.small, search rules)

pub returns-in-Err : goal.returns-in-Err
unfolding left_at judged_of steps_at
returns-in-Err c =
    λ m.
    put-goes _ _ c.answers_line.ensures
    c.put_line-count.ensures (search rules)
    (ap (λ (t : List ℕ). answers_word ++ t)
    (rw c.number.ensures (refused-left _ m _ (sym c.in-Err.ensures))))
    (omega arith)

pub returns-in-Ok : goal.returns-in-Ok
unfolding left_at judged_of steps_at
returns-in-Ok c =
    λ m.
    put-goes _ _ c.answers_line.ensures
    c.put_line-count.ensures (search rules)
    (ap (λ (t : List ℕ). answers_word ++ t)
    (accepted-left _ m _ _ (sym c.in-Ok.ensures)
    c.board_of.ensures))
    (omega arith)
