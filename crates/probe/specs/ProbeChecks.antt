-- What the checks give: the number of the last of several checks of one board, and the memory after them.
--
--   checks_number b n times     the number of the last of so many checks of the board b, where n is the length of the
--                               memory; 0 if there was none
--   checks_memory b times m     the memory m after them
--   decides_memory each b ls m  the memory m after deciding the literals ls on the board b, with so many checks after
--                               each
--   made h w cs ks              the number of making a puzzle's board: 0 where it is made
--   board_in h w cs ks codes    the board of that puzzle with the literals of the codes decided one after another
--   checked_number h w cs ks codes times n  the number of the last of so many checks of that board; the refusal's
--                               number where no board is made
--   checked_memory h w cs ks codes each times m  the memory m after deciding, with so many checks after each decide,
--                               and then so many checks; as it was where no board is made
use Rattle.std.specs.Prelude.{cond, List, [], ◌∷◌, map, ℕ, zero, suc, eqb, ℤ}
use Rattle.rules.specs.declared.Literal.{Literal}
use Rattle.board.specs.declared.Board.{Board}
use Rattle.board.specs.Board.{number_of, fresh_of, decide_of}
use Rattle.board.specs.Accepted.{made_board, decides_of}
use Rattle.calls.specs.Answers.{literal_of, answer_number, check_answer, check_memory}

unfoldable pub checks_number : Board → ℕ → ℕ → ℕ
checks_number b n zero = 0
checks_number b n (suc times) = answer_number (check_answer b n)

unfoldable pub checks_memory : Board → ℕ → List ℕ → List ℕ
checks_memory b zero m = m
checks_memory b (suc times) m = check_memory b (checks_memory b times m)

unfoldable pub decides_memory : ℕ → Board → List Literal → List ℕ → List ℕ
decides_memory each b [] m = m
decides_memory each b (l ∷ ls) m =
    let c : Board = (decide_of b l).board in decides_memory each c ls (checks_memory c each m)

module _ (h w : ℕ) (cs : List ℕ) (ks : List ℤ) where
  abbrev pub made : ℕ
  made = number_of (fresh_of h w cs ks).outcome

  abbrev pub board_in : List ℕ → Board
  board_in codes = decides_of (made_board h w cs ks) (map literal_of codes)

  unfoldable pub checked_number : List ℕ → ℕ → ℕ → ℕ
  checked_number codes times n = cond (eqb made 0) (checks_number (board_in codes) n times) made

  unfoldable pub checked_memory : List ℕ → ℕ → ℕ → List ℕ → List ℕ
  checked_memory codes each times m =
      cond (eqb made 0)
      (checks_memory (board_in codes) times (decides_memory each (made_board h w cs ks) (map literal_of codes) m)) m
