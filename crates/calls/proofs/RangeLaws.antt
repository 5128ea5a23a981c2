-- The counts that answers can have.
--
--   found-range       what Check gives of a board that is not alien is in range
--   call-range        what a call answers is in range, on every board
use Rattle.std.specs.Prelude.{◌≡◌, refl, Bool, true, false, cond, List, ℕ, ltb, length}
use Rattle.rules.specs.declared.Literal.{Literal}
use Rattle.rules.specs.declared.Call.{Call}
use Rattle.rules.specs.declared.Call.TheVariants.{Decide, Undo, Check, Preview}
use Rattle.rules.specs.Check.{Verdict as Found, pass, conflict}
use Rattle.rules.specs.Check.{check}
use Rattle.board.specs.declared.Board.{Board}
use Rattle.board.specs.declared.Refusal.TheVariants.{Alien, Short}
use Rattle.board.specs.Alien.{is_alien}
use Rattle.board.specs.Board.{decide_of, undo_of}
use Rattle.board.specs.View.{puzzle_of, states_of}
use Rattle.calls.specs.declared.Answer.TheVariants.{Refused}
use Rattle.calls.specs.Answers.{as_answer, check_answer, preview_answer, call_of}
use Rattle.calls.proofs.CallLaws.{reason-short}
use Rattle.calls.specs.NumberLaws.{InRange, then-range, ended-range, pass-range}

pub found-range : (b : Board) → is_alien b ≡ false → (f : Found) → check (puzzle_of b) (states_of b) ≡ f
    → InRange (as_answer f)
found-range b t (pass n) e = pass-range b t n e
found-range b t (conflict r) e = reason-short b t r e

check-range : (b : Board) (n : ℕ) → InRange (check_answer b n)
unfolding check_answer
check-range b n = go (is_alien b) (ltb n 1984) refl
  where
    go : (x y : Bool) → is_alien b ≡ x
        → InRange (cond x (Refused Alien) (cond y (Refused Short) (as_answer (check (puzzle_of b) (states_of b)))))
    go true y e = tt
    go false true e = tt
    go false false e = found-range b e (check (puzzle_of b) (states_of b)) refl

preview-range : (b : Board) (l : Literal) (n : ℕ) → InRange (preview_answer b l n)
unfolding preview_answer
preview-range b l n =
    then-range (decide_of b l).outcome (check_answer (decide_of b l).board n) (check-range (decide_of b l).board n)

pub call-range : (b : Board) (c : Call) (m : List ℕ) → InRange (call_of b c m).answer
unfolding call_of
call-range b (Decide l) m = ended-range (decide_of b l).outcome
call-range b Undo m = ended-range (undo_of b).outcome
call-range b Check m = check-range b (length m)
call-range b (Preview l) m = preview-range b l (length m)
