-- View: the puzzle, the borders and the sequence of literals of a board, as crate rules sees them.
--
--   puzzle_of b          the puzzle of a board
--   states_of b          its borders
--   literal_in bs n      the border n with the side that the array bs has for it
--   literals_of b        its stack with the sides, oldest first
--   reply_of o           an outcome of a decide or an undo as the book's reply
--
-- Beyond the page a colour and a clue read as those of a place that is 0. No rule reads them: Rules and Check ask only
-- for cells below the page's count. So the puzzle of a fresh board is the puzzle it was made from, as a whole record.
use Rattle.std.specs.Prelude.{List, ℕ, get_or, Ok, Err}
use Rattle.lists.specs.Table.{table}
use Rattle.rules.specs.declared.Literal.{Literal}
use Rattle.rules.specs.Page.{Puzzle, State}
use Rattle.rules.specs.Codes.{side_in, states_in, puzzle_in}
use Rattle.rules.specs.Book.{Reply, refused, done}
use Rattle.board.specs.declared.Board.{Board}
use Rattle.board.specs.Board.{Outcome, refusal_number}

unfoldable pub puzzle_of : Board → Puzzle
puzzle_of b = puzzle_in b.height b.width b.colours b.clues

unfoldable pub states_of : Board → ℕ → State
states_of b = states_in b.borders

-- the border n of the board with its side
abbrev pub literal_in : List ℕ → ℕ → Literal
literal_in bs n = record { border = n; side = side_in (get_or bs n 0) }

unfoldable pub literals_of : Board → List Literal
literals_of b = table b.count (λ i. literal_in b.borders (get_or b.stack i 0))

abbrev pub reply_of : Outcome → Reply
reply_of (Ok u) = done
reply_of (Err e) = refused (refusal_number e)
