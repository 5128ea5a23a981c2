-- What a call with a tally record gives: its number, the record and the memory afterwards.
--
--   call_with n l            the call with the number n, of the literal l where it takes one
--   tally_from ws            the tally that three words spell
--   record_number b c ws m   the number of the call c on the board b, with the record of the words ws and the memory m
--                            lent; 5 where the words are not three
--   record_words b c ws m    the words afterwards
--   record_memory b c ws m   the memory afterwards
use Rattle.std.specs.Prelude.{cond, List, ℕ, eqb, length, get_or}
use Rattle.std.proofs.lemmas.List.Edits.{sets}
use Rattle.rules.specs.declared.Literal.{Literal}
use Rattle.rules.specs.declared.Call.{Call}
use Rattle.rules.specs.declared.Call.TheVariants.{Decide, Undo, Check, Preview}
use Rattle.rules.specs.declared.Tally.{Tally}
use Rattle.rules.specs.Book.{tally_of}
use Rattle.board.specs.declared.Board.{Board}
use Rattle.calls.specs.Answers.{answer_number}
use Rattle.image.specs.Image.{tally_counts}
use Rattle.calls.specs.Counted.{counted_of, counted_memory}

abbrev pub call_with : ℕ → Literal → Call
call_with n l = cond (eqb n 0) (Decide l) (cond (eqb n 1) Undo (cond (eqb n 2) Check (Preview l)))

abbrev pub tally_from : List ℕ → Tally
tally_from ws = tally_of (get_or ws 0 0) (get_or ws 1 0) (get_or ws 2 0)

module _ (b : Board) (c : Call) (ws m : List ℕ) where
  unfoldable pub record_number : ℕ
  record_number = cond (eqb (length ws) 3) (answer_number (counted_of b c (tally_from ws) m).stepped.answer) 5

  unfoldable pub record_words : List ℕ
  record_words = cond (eqb (length ws) 3) (sets ws 0 (tally_counts (counted_of b c (tally_from ws) m).tally)) ws

  unfoldable pub record_memory : List ℕ
  record_memory = cond (eqb (length ws) 3) (counted_memory b c (tally_from ws) m) m
