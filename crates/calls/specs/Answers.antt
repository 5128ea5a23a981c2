-- Answers: what a check, a preview and a call return, refused ones too, and the memory lent to them afterwards.
--
--   answer_number a    an answer as one number
--   literal_of v       the literal that the number v stands for in reason memory
--   reason_in m n      the n literals at the start of the memory m
--   told a m           an answer as the book's reply; a reason is read from the memory m
--   memory_as m r      the memory m after the reply r of the book
--   as_answer f        what Check gives, as the answer of a call
--   written m f        the memory m after that answer
--   found_answer f n   what a check answers where Check gives f, and n is the length of the memory
--   found_memory f m   the memory m after it
--   check_answer b n   what a check of the board b answers, where n is the length of the memory
--   check_memory b m   the memory m after it
--   preview_answer b l n  what a preview of the literal l answers on the board b, where n is the length of the memory
--   preview_memory b l m  the memory m after it
--   then_answer o a    the answer a where the outcome o is done, otherwise its refusal
--   ended o            how a decide or an undo ended, as the answer of a call
--   stepped b a        a board with an answer
--   stepped_by r       what a decide or an undo returned, as a board with an answer
--   call_of b c m      what the call c returns on the board b with the memory m lent
--   call_memory b c m  the memory m after it
use Rattle.std.specs.Prelude.{cond, List, ◌++◌, map, ℕ, ◌+◌, ◌/◌, ◌%◌, eqb, ltb, length, take, drop, Ok, Err}
use Rattle.rules.specs.declared.Side.TheVariants.{Wall, Open}
use Rattle.rules.specs.declared.Literal.{Literal}
use Rattle.rules.specs.declared.Call.{Call}
use Rattle.rules.specs.declared.Call.TheVariants.{Decide, Undo, Check, Preview}
use Rattle.rules.specs.Codes.{literal_code, put}
use Rattle.rules.specs.Check.{Verdict, pass, conflict, check}
use Rattle.rules.specs.Book.{Reply, refused, done, answered}
use Rattle.board.specs.declared.Board.{Board}
use Rattle.board.specs.declared.Refusal.TheVariants.{Alien, Short}
use Rattle.board.specs.declared.Returned.{Returned}
use Rattle.board.specs.Alien.{is_alien}
use Rattle.board.specs.Board.{Outcome, refusal_number, is_done, decide_of, undo_of}
use Rattle.board.specs.View.{puzzle_of, states_of}
use Rattle.calls.specs.declared.Answer.{Answer}
use Rattle.calls.specs.declared.Answer.TheVariants.{Done, Pass, Conflict, Refused}
use Rattle.calls.specs.declared.Stepped.{Stepped}

-- "the refusal number; 0 for a decide or undo done; 32 plus the undecided count for a pass; 65,536 plus the literal
-- count for a conflict"
abbrev pub answer_number : Answer → ℕ
answer_number Done = 0
answer_number (Pass n) = 32 + n
answer_number (Conflict n) = 65536 + n
answer_number (Refused e) = refusal_number e

-- "a literal is 2·border, plus 1 for wall"
unfoldable pub literal_of : ℕ → Literal
literal_of v = record { border = v / 2; side = cond (eqb (v % 2) 1) Wall Open }

-- "a reason handed out is the literals it wrote, as they stood when it returned"
unfoldable pub reason_in : List ℕ → ℕ → List Literal
reason_in m n = map literal_of (take n m)

abbrev pub told : Answer → List ℕ → Reply
told Done m = done
told (Pass n) m = answered (pass n)
told (Conflict n) m = answered (conflict (reason_in m n))
told (Refused e) m = refused (refusal_number e)

-- "An answered check writes its literals from the start of the memory and nothing beyond; a pass writes none"
abbrev pub memory_as : List ℕ → Reply → List ℕ
memory_as m (refused n) = m
memory_as m done = m
memory_as m (answered (pass n)) = m
memory_as m (answered (conflict r)) = map literal_code r ++ drop (length r) m

-- ---- check
abbrev pub as_answer : Verdict → Answer
as_answer (pass n) = Pass n
as_answer (conflict r) = Conflict (length r)

-- "An answered check writes its literals from the start of the memory and nothing beyond; a pass writes none"
abbrev pub written : List ℕ → Verdict → List ℕ
written m (pass n) = m
written m (conflict r) = put m 0 r

-- "A check answers 9 if its memory is short; else what Check gives"
abbrev pub found_answer : Verdict → ℕ → Answer
found_answer f n = cond (ltb n 1984) (Refused Short) (as_answer f)

-- "lent memory stays"
abbrev pub found_memory : Verdict → List ℕ → List ℕ
found_memory f m = cond (ltb (length m) 1984) m (written m f)

-- "The lowest applicable number is given": 5 for an alien board
unfoldable pub check_answer : Board → ℕ → Answer
check_answer b n = cond (is_alien b) (Refused Alien) (found_answer (check (puzzle_of b) (states_of b)) n)

-- "Other refusals return the board given; lent memory stays"
unfoldable pub check_memory : Board → List ℕ → List ℕ
check_memory b m = cond (is_alien b) m (found_memory (check (puzzle_of b) (states_of b)) m)

-- ---- preview
abbrev pub then_answer : Outcome → Answer → Answer
then_answer (Ok u) a = a
then_answer (Err e) a = Refused e

-- "It returns .. what decide followed by check would on a copy of the board"
unfoldable pub preview_answer : Board → Literal → ℕ → Answer
preview_answer b l n = then_answer (decide_of b l).outcome (check_answer (decide_of b l).board n)

-- "and writes what decide followed by check would"
unfoldable pub preview_memory : Board → Literal → List ℕ → List ℕ
preview_memory b l m = cond (is_done (decide_of b l).outcome) (check_memory (decide_of b l).board m) m

-- ---- any call
abbrev pub ended : Outcome → Answer
ended o = then_answer o Done

abbrev pub stepped : Board → Answer → Stepped
stepped b a = record { board = b; answer = a }

abbrev pub stepped_by : Returned → Stepped
stepped_by r = stepped r.board (ended r.outcome)

-- "A check never alters the board"; at a preview "The board given is unaltered"
unfoldable pub call_of : Board → Call → List ℕ → Stepped
call_of b (Decide l) m = stepped_by (decide_of b l)
call_of b Undo m = stepped_by (undo_of b)
call_of b Check m = stepped b (check_answer b (length m))
call_of b (Preview l) m = stepped b (preview_answer b l (length m))

unfoldable pub call_memory : Board → Call → List ℕ → List ℕ
call_memory b (Decide l) m = m
call_memory b Undo m = m
call_memory b Check m = check_memory b m
call_memory b (Preview l) m = preview_memory b l m
