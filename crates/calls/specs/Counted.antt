-- Counted: a call that a tally record is lent to.
--
--   counted_by s t          what a call returns, with the record afterwards
--   counted_of b c t m      what the call c returns on the board b with the record t and the memory m lent
--   counted_memory b c t m  the memory m after it
use Rattle.std.specs.Prelude.{cond, List, ℕ}
use Rattle.rules.specs.declared.Call.{Call}
use Rattle.rules.specs.declared.Tally.{Tally}
use Rattle.rules.specs.Book.{same_tally}
use Rattle.board.specs.declared.Board.{Board}
use Rattle.board.specs.declared.Refusal.TheVariants.{Alien}
use Rattle.calls.specs.declared.Answer.TheVariants.{Refused}
use Rattle.calls.specs.declared.Stepped.{Stepped}
use Rattle.calls.specs.declared.Counted.{Counted}
use Rattle.calls.specs.Answers.{stepped, call_of, call_memory}

abbrev pub counted_by : Stepped → Tally → Counted
counted_by s t = record { stepped = s; tally = t }

-- "A lent record that disagrees with the board is alien and keeps its contents"; else the call is the plain one, and
-- the record afterwards is the tally of the board that it returns: "each call updates that one"
unfoldable pub counted_of : Board → Call → Tally → List ℕ → Counted
counted_of b c t m =
    cond (same_tally t b.tally) (counted_by (call_of b c m) (call_of b c m).board.tally)
    (counted_by (stepped b (Refused Alien)) t)

-- "lent memory stays"
unfoldable pub counted_memory : Board → Call → Tally → List ℕ → List ℕ
counted_memory b c t m = cond (same_tally t b.tally) (call_memory b c m) m
