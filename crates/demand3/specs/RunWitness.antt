-- A closed witness: lists of calls on one board, a decide and a check or a preview alone, at which full settings stood.
-- One of these is a solution, and passed; the other is none, and is ruled out: proofs/RunWitnessLaws.
use Rattle.std.specs.Prelude.{List, [], ◌∷◌, map, ℕ, ℤ, pos, negsuc}
use Rattle.rules.specs.declared.Side.{Side}
use Rattle.rules.specs.declared.Side.TheVariants.{Wall, Open}
use Rattle.rules.specs.declared.Literal.{Literal}
use Rattle.rules.specs.declared.Call.{Call}
use Rattle.rules.specs.declared.Call.TheVariants.{Decide, Check, Preview}
use Rattle.rules.specs.Page.{State}
use Rattle.rules.specs.Check.{Verdict, check}
use Rattle.rules.specs.Book.{Asked, states}
use Rattle.rules.specs.Codes.{puzzle_in}
use Rattle.argument.specs.Demand.{BookStoodAt, Passes}
use Rattle.board.specs.declared.Board.{Board}
use Rattle.board.specs.Accepted.{made_board}
use Rattle.demand3.specs.Runs.{lend}
use Rattle.demand3.specs.Demand3.{RuledOut, StoodAt}

-- 1×2, 01, the clue 1 at (0,0)
abbrev pub cs : List ℕ
cs = 0 ∷ 1 ∷ []

abbrev pub ks : List ℤ
ks = pos 1 ∷ negsuc 0 ∷ []

abbrev pub witness_board : Board
witness_board = made_board 1 2 cs ks

-- the border's side, as a literal and as a setting
abbrev pub first : Side → Literal
first d = record { border = 0; side = d }

abbrev pub setting : Side → ℕ → State
setting d = states (first d ∷ [])

-- a decide of that side and a check
abbrev pub deciding : Side → List Call
deciding d = Decide (first d) ∷ Check ∷ []

-- a preview of that side
abbrev pub previewing : Side → List Call
previewing d = Preview (first d) ∷ []

-- what Check gives there
abbrev pub found : Side → Verdict
found d = check (puzzle_in 1 2 cs ks) (setting d)

-- the full setting stood at the last of the calls, by the book
abbrev pub BookStood : Side → List Asked → Type 0
BookStood d asked = BookStoodAt (puzzle_in 1 2 cs ks) asked (setting d) (found d)

module _ (m : List ℕ) where
  -- the solution passed, and the other setting is ruled out
  pub record Witnessed (calls : Side → List Call) : Type 0 where
    pub open-stood : StoodAt witness_board (map (lend m) (calls Open)) (setting Open) (found Open)
    pub open-passed : Passes (found Open)
    pub wall-stood : StoodAt witness_board (map (lend m) (calls Wall)) (setting Wall) (found Wall)
    pub wall-ruled : RuledOut witness_board (map (lend m) (calls Wall)) (setting Wall)

  pub record RunWitness : Type 0 where
    pub decided : Witnessed deciding
    -- "A preview's reason .. counts as handed out; a full setting on the copy counts as one that stood at the check"
    pub previewed : Witnessed previewing
