-- What the previews give: the number of the last of several previews of one literal, and the memory after them.
--
--   previews_number b l n times  the number of the last of so many previews of the literal l on the board b, where n is
--                                the length of the memory; 0 if there was none
--   previews_memory b l times m  the memory m after them
use Rattle.std.specs.Prelude.{List, ℕ, zero, suc}
use Rattle.rules.specs.declared.Literal.{Literal}
use Rattle.board.specs.declared.Board.{Board}
use Rattle.calls.specs.Answers.{answer_number, preview_answer, preview_memory}

unfoldable pub previews_number : Board → Literal → ℕ → ℕ → ℕ
previews_number b l n zero = 0
previews_number b l n (suc times) = answer_number (preview_answer b l n)

unfoldable pub previews_memory : Board → Literal → ℕ → List ℕ → List ℕ
previews_memory b l zero m = m
previews_memory b l (suc times) m = preview_memory b l (previews_memory b l times m)
