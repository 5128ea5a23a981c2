-- Produced: the boards that decides and undos can produce from a fresh board, by what the calls return.
--
--   Produced b      making a board, a decide and an undo that are done lead to b
--   Move            a decide with its literal, or an undo
--   move_of b m     what the move m returns on the board b
--   Leads b ms d    the moves ms, one after the other, each of them done, lead from b to d
--   Reached b       an accepted puzzle, and moves that lead from its fresh board to b
use Rattle.std.specs.Prelude.{◌≡◌, List, [], ◌∷◌, ℕ, ℤ, Ok}
use Rattle.rules.specs.declared.Literal.{Literal}
use Rattle.board.specs.declared.Board.{Board}
use Rattle.board.specs.declared.Returned.{Returned}
use Rattle.board.specs.Board.{returned, fresh_of, decide_of, undo_of, SmallClues}

pub data Produced : Board → Type 0 where
  made : (h w : ℕ) (cs : List ℕ) (ks : List ℤ) (b : Board) → SmallClues ks → fresh_of h w cs ks ≡ returned (Ok tt) b
      → Produced b
  after_decide : (b : Board) (l : Literal) (d : Board) → Produced b → decide_of b l ≡ returned (Ok tt) d → Produced d
  after_undo : (b d : Board) → Produced b → undo_of b ≡ returned (Ok tt) d → Produced d

pub data Move : Type 0 where
  decide : Literal → Move
  undo : Move

abbrev pub move_of : Board → Move → Returned
move_of b (decide l) = decide_of b l
move_of b undo = undo_of b

pub data Leads : Board → List Move → Board → Type 0 where
  stop : {b : Board} → Leads b [] b
  next : {b c d : Board} {m : Move} {ms : List Move} → move_of b m ≡ returned (Ok tt) c → Leads c ms d
      → Leads b (m ∷ ms) d

-- "A puzzle is accepted if making its board is not refused"
pub record Reached (b : Board) : Type 0 where
  pub height : ℕ
  pub width : ℕ
  pub colours : List ℕ
  pub clues : List ℤ
  pub small : SmallClues clues
  pub start : Board
  pub accepted : fresh_of height width colours clues ≡ returned (Ok tt) start
  pub moves : List Move
  pub run : Leads start moves b
