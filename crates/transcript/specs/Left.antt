-- What is left to print of a page, at each stage of a run.
--
--   start_board p        the board of an accepted page
--   board_at p           the board that the code makes of a page
--   calls_text b m cs    the lines of the calls cs from the board b on, with the memory m lent, and the last line
--   first_memory b m cs  the memory m after the first of the calls cs on the board b; m where there is none
--   judged_text m v      what is printed after the first line, by the judgement of the page
--   literals_text m a e  the literals of the memory m from place a up to place e
--   line_of a            the line of an answer, or its part before the literals
--   stage_of a           what is printed after that
--   first_run            the run of a page of which nothing is printed yet
--   goes_on g            something is left to print
--   lines_from s b at m  the lines of the calls from a place of the page s on, and the last line
--   left_at s g b at m   what is left to print of the page s at the stage g
--   left s r m           what is left to print at the run r
--   steps_at s g at      a number that falls with every chunk; 0 where all is printed
--   steps s r            that number at the run r
--   memory_at s g b at m  the memory m after the chunk of the stage g
--   memory_next s q n m  the memory m after a call of `next` on the run q with a buffer of n bytes
--   Goes s t k o r m out  at the run r the chunk put into the buffer o, which is `out` then, and what is left are
--                         the text t, the bytes beyond the chunk are as they were, and fewer than k steps are left
--   Next s q m o r m' out  what a call of `next` does to the run q, the memory m and the buffer o
use Rattle.std.specs.Prelude.{◌≡◌, Bool, true, false, cond, List, [], ◌∷◌, ◌++◌, ℕ, ◌+◌, ◌-◌, ◌*◌, ◌<◌, ◌≤◌, ltb}
use Rattle.std.specs.Prelude.{length, take, drop}
use Rattle.rules.specs.declared.Call.{Call}
use Rattle.rules.specs.Check.{pass}
use Rattle.rules.specs.Book.{refused, answered}
use Rattle.board.specs.declared.Board.{Board}
use Rattle.board.specs.Alien.{cells_of}
use Rattle.board.specs.Board.{refusal_number, zero_board}
use Rattle.board.specs.Accepted.{made_board}
use Rattle.calls.specs.declared.Answer.{Answer}
use Rattle.calls.specs.Answers.{told, call_of, call_memory}
use Rattle.page.specs.Grammar.{Sheet, end_word, call}
use Rattle.page.specs.Judge.{Judgement, rejected, accepted, judgement_of, colours_of, clues_of, colour_array}
use Rattle.page.specs.Judge.{clue_array}
use Rattle.page.specs.Many.{show_all}
use Rattle.page.specs.Places.{all_from}
use Rattle.print.specs.Answers.{answers_word, conflict_word, show_reply, code_text}
use Rattle.transcript.specs.declared.Stage.{Stage}
use Rattle.transcript.specs.declared.Stage.TheVariants.{Begin, Refused, Calls, Reason, Last, Over}
use Rattle.transcript.specs.declared.Run.{Run}
use Rattle.calls.specs.declared.Answer.TheVariants as answer

unfoldable pub start_board : Sheet → Board
start_board p = made_board p.height p.width (colours_of p) (clues_of p)

-- the arrays are cut to the page's cells
unfoldable pub board_at : Sheet → Board
board_at p =
    let n = cells_of p.height p.width in
    made_board p.height p.width (take n (colour_array p.rows)) (take n (clue_array p.width p.clues))

-- "one line a check or refused call, `)`": each call is given the board and the memory that the last one returned
unfoldable pub calls_text : Board → List ℕ → List Call → List ℕ
calls_text b m [] = end_word
calls_text b m (c ∷ cs) =
    show_reply (told (call_of b c m).answer (call_memory b c m))
    ++ calls_text (call_of b c m).board (call_memory b c m) cs

-- one call is made at a time
unfoldable pub first_memory : Board → List ℕ → List Call → List ℕ
first_memory b m [] = m
first_memory b m (c ∷ cs) = call_memory b c m

-- "A page that makes no board prints just that line between these"
unfoldable pub judged_text : List ℕ → Judgement → List ℕ
judged_text m (rejected n) = show_reply (refused n) ++ end_word
judged_text m (accepted p) = calls_text (start_board p) m p.calls

unfoldable pub literals_text : List ℕ → ℕ → ℕ → List ℕ
literals_text m a e = show_all code_text (drop a (take e m))

unfoldable pub line_of : Answer → List ℕ
line_of answer.Done = []
line_of (answer.Pass n) = show_reply (answered (pass n))
line_of (answer.Conflict n) = conflict_word
line_of (answer.Refused r) = show_reply (refused (refusal_number r))

unfoldable pub stage_of : Answer → Stage
stage_of answer.Done = Calls
stage_of (answer.Pass n) = Calls
stage_of (answer.Conflict n) = Reason 0 n
stage_of (answer.Refused r) = Calls

abbrev pub first_run : Run
first_run = record { board = zero_board; at = 0; stage = Begin; count = 0 }

abbrev pub goes_on : Stage → Bool
goes_on Begin = true
goes_on (Refused n) = true
goes_on Calls = true
goes_on (Reason a e) = true
goes_on Last = true
goes_on Over = false

module _ (s : List ℕ) where
  -- the lines of the calls from a place of the page on
  unfoldable pub lines_from : Board → ℕ → List ℕ → List ℕ
  lines_from b at m = calls_text b m (all_from call s at)

  unfoldable pub left_at : Stage → Board → ℕ → List ℕ → List ℕ
  left_at Begin b at m = answers_word ++ judged_text m (judgement_of s)
  left_at (Refused n) b at m = show_reply (refused n) ++ end_word
  left_at Calls b at m = lines_from b at m
  left_at (Reason a e) b at m = literals_text m a e ++ (end_word ++ lines_from b at m)
  left_at Last b at m = end_word
  left_at Over b at m = []

  abbrev pub left : Run → List ℕ → List ℕ
  left r m = left_at r.stage r.board r.at m

  -- a call takes a byte or more of the page, and a reason has at most 1,984 literals
  unfoldable pub steps_at : Stage → ℕ → ℕ
  steps_at Begin at = length s * 2000 + 3
  steps_at (Refused n) at = 2
  steps_at Calls at = (length s - at) * 2000 + 2
  steps_at (Reason a e) at = (length s - at) * 2000 + 3 + (e - a)
  steps_at Last at = 1
  steps_at Over at = 0

  abbrev pub steps : Run → ℕ
  steps r = steps_at r.stage r.at

  -- only the line of a call makes one
  unfoldable pub memory_at : Stage → Board → ℕ → List ℕ → List ℕ
  memory_at Begin b at m = m
  memory_at (Refused n) b at m = m
  memory_at Calls b at m = first_memory b m (all_from call s at)
  memory_at (Reason a e) b at m = m
  memory_at Last b at m = m
  memory_at Over b at m = m

  -- a buffer of fewer than 32 bytes takes no chunk, and no call is made
  unfoldable pub memory_next : Run → ℕ → List ℕ → List ℕ
  memory_next q n m = cond (ltb n 32) m (memory_at q.stage q.board q.at m)

  pub record Goes (text : List ℕ) (most : ℕ) (before : List ℕ) (r : Run) (m out : List ℕ) : Type 0 where
    pub fits : r.count ≤ length out
    pub prints : take r.count out ++ left r m ≡ text
    pub kept : drop r.count out ≡ drop r.count before
    pub less : steps r < most

  pub record Next (q : Run) (m before : List ℕ) (r : Run) (after out : List ℕ) : Type 0 where
    pub fits : r.count ≤ length out
    -- the chunk, and what is left after it, are what was left
    pub prints : take r.count out ++ left r after ≡ left q m
    -- the bytes beyond the chunk are as they were
    pub kept : drop r.count out ≡ drop r.count before
    pub memory : after ≡ memory_next q (length before) m
    -- a buffer of 32 bytes or more takes a chunk
    pub less : 32 ≤ length before → goes_on q.stage ≡ true → steps r < steps q
