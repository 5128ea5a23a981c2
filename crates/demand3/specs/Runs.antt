-- Runs: a list of calls on the board of an accepted puzzle, each call given the board that the last one returned.
--
--   Lent                 a call with the memory and, if any, the tally record that are lent to it, as they stand then
--   lend m c             the call c with the memory m lent, and no record
--   asked_by c           the call as the book takes it: of memory only the length
--   Given                what a call gives: its answer, and the memory and the record as they stand when it returns
--   stepped_on b c m t   what the call c returns on the board b, with the memory m lent, and a record or none
--   memory_on b c m t    the memory after it
--   tally_on b c m t     the record after it
--   given_by b c         what the call c gives on the board b
--   told_by g            that as the book's reply
--   looked_on b c        the board that the call c is answered from, where b is the board given
--   next_board b c       the board that the call c returns on the board b
--   board_after b calls  the board after the calls, from the board b
--   run_from b calls     what the calls give, from the board b
--   memories calls rs    the memories lent to the calls, each after its reply
use Rattle.std.specs.Prelude.{List, [], ◌∷◌, ℕ, length}
use Rattle.std.proofs.Math.Option.{Option, some, none}
use Rattle.rules.specs.declared.Call.{Call}
use Rattle.rules.specs.declared.Call.TheVariants.{Decide, Undo, Check, Preview}
use Rattle.rules.specs.declared.Tally.{Tally}
use Rattle.rules.specs.Book.{Asked, Reply}
use Rattle.board.specs.declared.Board.{Board}
use Rattle.board.specs.Board.{decide_of}
use Rattle.calls.specs.declared.Answer.{Answer}
use Rattle.calls.specs.declared.Stepped.{Stepped}
use Rattle.calls.specs.Answers.{told, memory_as, call_of, call_memory}
use Rattle.calls.specs.Counted.{counted_of, counted_memory}

pub record Lent : Type 0 where
  pub call : Call
  pub memory : List ℕ
  pub tally : Option Tally

-- every call without a record is made so
abbrev pub lend : List ℕ → Call → Lent
lend m c = record { call = c; memory = m; tally = none }

-- "the calls with their arguments, never a board, and of reason memory only the length"; "the book takes the record as
-- lent"
abbrev pub asked_by : Lent → Asked
asked_by c = record { call = c.call; places = length c.memory; tally = c.tally }

pub record Given : Type 0 where
  pub answer : Answer
  pub memory : List ℕ
  pub tally : Option Tally

-- without a record the call is the plain one
abbrev pub stepped_on : Board → Call → List ℕ → Option Tally → Stepped
stepped_on b c m none = call_of b c m
stepped_on b c m (some t) = (counted_of b c t m).stepped

abbrev pub memory_on : Board → Call → List ℕ → Option Tally → List ℕ
memory_on b c m none = call_memory b c m
memory_on b c m (some t) = counted_memory b c t m

abbrev pub tally_on : Board → Call → List ℕ → Option Tally → Option Tally
tally_on b c m none = none
tally_on b c m (some t) = some (counted_of b c t m).tally

abbrev pub given_by : Board → Lent → Given
given_by b c =
    record {
      answer = (stepped_on b c.call c.memory c.tally).answer;
      memory = memory_on b c.call c.memory c.tally;
      tally = tally_on b c.call c.memory c.tally;
    }

abbrev pub told_by : Given → Reply
told_by g = told g.answer g.memory

-- for a preview "a copy of the board", with its literal decided
abbrev pub looked_on : Board → Call → Board
looked_on b (Decide l) = b
looked_on b Undo = b
looked_on b Check = b
looked_on b (Preview l) = (decide_of b l).board

abbrev pub next_board : Board → Lent → Board
next_board b c = (stepped_on b c.call c.memory c.tally).board

unfoldable pub board_after : Board → List Lent → Board
board_after b [] = b
board_after b (c ∷ calls) = board_after (next_board b c) calls

unfoldable pub run_from : Board → List Lent → List Given
run_from b [] = []
run_from b (c ∷ calls) = given_by b c ∷ run_from (next_board b c) calls

unfoldable pub memories : List Lent → List Reply → List (List ℕ)
memories [] rs = []
memories (c ∷ calls) [] = []
memories (c ∷ calls) (r ∷ rs) = memory_as c.memory r ∷ memories calls rs
