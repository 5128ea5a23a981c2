-- Accepted: a puzzle whose board is made, and decides on a board.
--
--   Accepted h w cs ks    making the board of that puzzle is not refused
--   made_board h w cs ks  its board
--   decides_of b ls       the board b with the literals ls decided one after another
use Rattle.std.specs.Prelude.{◌≡◌, List, [], ◌∷◌, ℕ, ℤ, Ok}
use Rattle.rules.specs.declared.Literal.{Literal}
use Rattle.board.specs.declared.Board.{Board}
use Rattle.board.specs.Board.{fresh_of, decide_of, SmallClues}

-- "A puzzle is accepted if making its board is not refused"; clues are numbers of 32 bits, as the code takes them
pub record Accepted (h w : ℕ) (cs : List ℕ) (ks : List ℤ) : Type 0 where
  pub small : SmallClues ks
  pub made : (fresh_of h w cs ks).outcome ≡ Ok tt

abbrev pub made_board : ℕ → ℕ → List ℕ → List ℤ → Board
made_board h w cs ks = (fresh_of h w cs ks).board

unfoldable pub decides_of : Board → List Literal → Board
decides_of b [] = b
decides_of b (l ∷ ls) = decides_of (decide_of b l).board ls
