-- "Number 11 is retired and not used again": no call on an image returns it, and making one does not either.
--
--   call-never-eleven    a decide or an undo does not
--   check-never-eleven   nor does a check
--   fresh-never-eleven   nor does making a fresh image
use Rattle.std.specs.Prelude.{◌≡◌, Bool, true, false, cond, List, ℕ, eqb, ℤ}
use Rattle.std.proofs.Common.{arith}
use Rattle.board.specs.Board.{number_of, decide_of, undo_of, fresh_of}
use Rattle.board.specs.Cases.{outcome-never-eleven}
use Rattle.calls.specs.Answers.{answer_number, check_answer}
use Rattle.calls.specs.NumberLaws.{answer-never-eleven}
use Rattle.image.specs.Image.{spelled_board, right_length, decide_literal, ImageCall, decide, undo, number_by}
use Rattle.image.specs.Image.{image_number, place_count, check_number}
use Rattle.image.specs.Making.{fresh_number}

-- a number that is not 11, or the 5 of another length
or-alien : (b : Bool) (n : ℕ) → (n ≡ 11 → ⊥) → cond b n 5 ≡ 11 → ⊥
or-alien true n h e = h e
or-alien false n h e = omega arith

pub call-never-eleven : (s : List ℕ) (a : ImageCall) → image_number s a ≡ 11 → ⊥
unfolding image_number
call-never-eleven s (decide n d) e =
    or-alien (right_length s) (number_by (spelled_board s) (decide n d))
    (outcome-never-eleven (decide_of (spelled_board s) (decide_literal n d)).outcome) e
call-never-eleven s undo e =
    or-alien (right_length s) (number_by (spelled_board s) undo)
    (outcome-never-eleven (undo_of (spelled_board s)).outcome) e

pub check-never-eleven : (s m : List ℕ) → check_number s m ≡ 11 → ⊥
unfolding check_number
check-never-eleven s m e =
    or-alien (right_length s) (answer_number (check_answer (spelled_board s) (place_count m)))
    (answer-never-eleven (check_answer (spelled_board s) (place_count m))) e

pub fresh-never-eleven : (h w : ℕ) (cs : List ℕ) (ks : List ℤ) (s : List ℕ) → fresh_number h w cs ks s ≡ 11 → ⊥
unfolding fresh_number
fresh-never-eleven h w cs ks s e = go (eqb (number_of (fresh_of h w cs ks).outcome) 0) e
  where
    go : (b : Bool) → cond b (cond (right_length s) 0 5) (number_of (fresh_of h w cs ks).outcome) ≡ 11 → ⊥
    go true q = or-alien (right_length s) 0 (λ z. omega arith) q
    go false q = outcome-never-eleven (fresh_of h w cs ks).outcome q
