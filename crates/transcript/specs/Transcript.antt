-- Transcript: what the page program prints for a page, the answers of the book.
--
--   puzzle_on p         the puzzle of an accepted page
--   page_replies v      the book's answers for a page with the judgement v
--   transcript s        the output for the bytes s
use Rattle.std.specs.Prelude.{List, [], ◌∷◌, map, ℕ}
use Rattle.rules.specs.Page.{Puzzle}
use Rattle.rules.specs.Book.{ask, Reply, refused, replies}
use Rattle.rules.specs.Codes.{puzzle_in}
use Rattle.page.specs.Grammar.{Sheet}
use Rattle.page.specs.Judge.{Judgement, rejected, accepted, judgement_of, colours_of, clues_of}
use Rattle.print.specs.Answers.{show_answers}

abbrev pub puzzle_on : Sheet → Puzzle
puzzle_on p = puzzle_in p.height p.width (colours_of p) (clues_of p)

-- each check has reason memory for 1,984 literals; "A page that makes no board prints just that line between these"
unfoldable pub page_replies : Judgement → List Reply
page_replies (rejected n) = refused n ∷ []
page_replies (accepted p) = replies (puzzle_on p) (map (ask 1984) p.calls)

-- "It prints `(answers`, one line a check or refused call, `)`"
unfoldable pub transcript : List ℕ → List ℕ
transcript s = show_answers (page_replies (judgement_of s))
