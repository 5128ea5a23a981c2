-- 01's small boards marked P, through the calls: from making the board on, what each call answers.
--
--   RunAnswers h w cs ks calls rs   the calls answer rs on that puzzle's board, each with memory for 1,984 literals
--   Pair ks calls rs                so they do on 1×2 with the colours 01 and the clues ks
--   Four calls rs                   so they do on 1×4 with the colours 0011, without clues
--   recorded                        calls on 1×2 with the colours 01, each with the tally record that it is lent
--   lent_with m p, asks_with n p    such a call with the memory m, and with n places, as the book is asked
--   pair_clues, recorded_puzzle     that board's clues, none, and its puzzle
--   SmallRuns                       the boards, the page of 01's example, previews, and calls with tally records:
--                                   right, wrong and stale ones, and none
use Rattle.std.specs.Prelude.{◌≡◌, List, [], ◌∷◌, map, ℕ, ℤ, pos, negsuc, length}
use Rattle.std.proofs.Math.Option.{Option, some, none}
use Rattle.rules.specs.declared.Call.{Call}
use Rattle.rules.specs.declared.Call.TheVariants.{Decide, Undo, Check, Preview}
use Rattle.rules.specs.declared.Tally.{Tally}
use Rattle.rules.specs.Page.{Puzzle, wall_at, open_at}
use Rattle.rules.specs.Codes.{puzzle_in}
use Rattle.rules.specs.Check.{pass, conflict}
use Rattle.rules.specs.Book.{Asked, Reply, refused, done, answered}
use Rattle.rules.specs.Book.{tally_of}
use Rattle.board.specs.Accepted.{made_board}
use Rattle.demand3.specs.Runs.{Lent, lend, Given, told_by, run_from}

pub record RunAnswers (h w : ℕ) (cs : List ℕ) (ks : List ℤ) (calls : List Call) (rs : List Reply) : Type 0 where
  pub answers : (m : List ℕ) → length m ≡ 1984
      → map told_by (run_from (made_board h w cs ks) (map (lend m) calls)) ≡ rs

abbrev no_clue : ℤ
no_clue = negsuc 0

-- 1×2 with the colours 01
abbrev pub Pair : List ℤ → List Call → List Reply → Type 0
Pair ks calls rs = RunAnswers 1 2 (0 ∷ 1 ∷ []) ks calls rs

-- 1×4 with the colours 0011
abbrev pub Four : List Call → List Reply → Type 0
Four calls rs = RunAnswers 1 4 (0 ∷ 0 ∷ 1 ∷ 1 ∷ []) (no_clue ∷ no_clue ∷ no_clue ∷ no_clue ∷ []) calls rs

-- calls with tally records, on 1×2 with the colours 01
abbrev pub recorded : List (Call × Option Tally)
recorded =
    (Decide (wall_at 0), some (tally_of 1 0 0))
    ∷ (Check, some (tally_of 1 0 0))
    ∷ (Check, some (tally_of 0 1 0))
    ∷ (Undo, some (tally_of 0 0 1))
    ∷ (Undo, some (tally_of 0 1 0))
    ∷ (Preview (open_at 0), some (tally_of 1 0 0))
    ∷ (Check, none)
    ∷ (Decide (open_at 1), some (tally_of 1 0 0))
    ∷ []

abbrev pub lent_with : List ℕ → Call × Option Tally → Lent
lent_with m p = record { call = p.0; memory = m; tally = p.1 }

abbrev pub asks_with : ℕ → Call × Option Tally → Asked
asks_with n p = record { call = p.0; places = n; tally = p.1 }

abbrev pub pair_clues : List ℤ
pair_clues = no_clue ∷ no_clue ∷ []

abbrev given_on : List ℕ → List Given
given_on m = run_from (made_board 1 2 (0 ∷ 1 ∷ []) pair_clues) (map (lent_with m) recorded)

abbrev pub recorded_puzzle : Puzzle
recorded_puzzle = puzzle_in 1 2 (0 ∷ 1 ∷ []) pair_clues

pub record SmallRuns : Type 0 where
  -- "1×1 without clue: empty reason"
  pub one-cell-empty : RunAnswers 1 1 (0 ∷ []) (no_clue ∷ []) (Check ∷ []) (answered (conflict []) ∷ [])
  -- "1×2, colours 00, undecided: empty reason"
  pub one-colour-empty : RunAnswers 1 2 (0 ∷ 0 ∷ []) (no_clue ∷ no_clue ∷ []) (Check ∷ []) (answered (conflict []) ∷ [])
  -- "1×2, 01: undecided passes with 1; open passes with 0; wall: 0w", by the calls of the page that 01 shows
  pub page : Pair (no_clue ∷ no_clue ∷ [])
      (Check ∷ Decide (wall_at 0) ∷ Check ∷ Undo ∷ Decide (open_at 0) ∷ Check ∷ [])
      (answered (pass 1) ∷ done ∷ answered (conflict (wall_at 0 ∷ [])) ∷ done ∷ done ∷ answered (pass 0) ∷ [])
  -- "1×2, 01, clue at (0,0): 1 passes undecided; 0 and 2 give the empty reason"
  pub clue-one-passes : Pair (pos 1 ∷ no_clue ∷ []) (Check ∷ []) (answered (pass 1) ∷ [])
  pub clue-zero-empty : Pair (pos 0 ∷ no_clue ∷ []) (Check ∷ []) (answered (conflict []) ∷ [])
  pub clue-two-empty : Pair (pos 2 ∷ no_clue ∷ []) (Check ∷ []) (answered (conflict []) ∷ [])
  -- "1×3, 010, both open: 0o 1o"
  pub both-open : RunAnswers 1 3 (0 ∷ 1 ∷ 0 ∷ []) (no_clue ∷ no_clue ∷ no_clue ∷ [])
      (Decide (open_at 0) ∷ Decide (open_at 1) ∷ Check ∷ [])
      (done ∷ done ∷ answered (conflict (open_at 0 ∷ open_at 1 ∷ [])) ∷ [])
  -- "1×4, 0011, all open: passes"
  pub four-passes : Four (Decide (open_at 0) ∷ Decide (open_at 1) ∷ Decide (open_at 2) ∷ Check ∷ [])
      (done ∷ done ∷ done ∷ answered (pass 0) ∷ [])
  -- "border 0 wall, others open: 1o 2o 0w"
  pub four-wall : Four (Decide (wall_at 0) ∷ Decide (open_at 1) ∷ Decide (open_at 2) ∷ Check ∷ [])
      (done ∷ done ∷ done ∷ answered (conflict (open_at 1 ∷ open_at 2 ∷ wall_at 0 ∷ [])) ∷ [])
  -- 02, No. 4: before striking, 2w 0o 2w; by a preview and by a check
  pub four-once : Four (Decide (open_at 0) ∷ Preview (wall_at 2) ∷ Decide (wall_at 2) ∷ Check ∷ [])
      (done ∷ answered (conflict (wall_at 2 ∷ open_at 0 ∷ [])) ∷ done ∷ answered (conflict (wall_at 2 ∷ open_at 0 ∷ []))
      ∷ [])
  -- "2×2, rows 01 and 01; 0, 2, 3 open, 1 wall: 3o 0o 2o 1w"
  pub wall-in-block : RunAnswers 2 2 (0 ∷ 1 ∷ 0 ∷ 1 ∷ []) (no_clue ∷ no_clue ∷ no_clue ∷ no_clue ∷ [])
      (Decide (open_at 0) ∷ Decide (open_at 2) ∷ Decide (open_at 3) ∷ Decide (wall_at 1) ∷ Check ∷ [])
      (done ∷ done ∷ done ∷ done ∷ answered (conflict (open_at 3 ∷ open_at 0 ∷ open_at 2 ∷ wall_at 1 ∷ [])) ∷ [])
  -- refused calls: 6, 7 and 8 of the table
  pub refusals : Pair (no_clue ∷ no_clue ∷ [])
      (Undo ∷ Decide (open_at 1) ∷ Decide (open_at 0) ∷ Decide (wall_at 0) ∷ Check ∷ [])
      (refused 8 ∷ refused 6 ∷ done ∷ refused 7 ∷ answered (pass 0) ∷ [])
  -- "what decide followed by check would on a copy of the board": the check after a preview is that of the board given,
  -- and the border can be decided still
  pub previews : Pair (no_clue ∷ no_clue ∷ [])
      (Preview (wall_at 0) ∷ Preview (open_at 0) ∷ Check ∷ Preview (open_at 1) ∷ Decide (open_at 0) ∷ Preview
      (wall_at 0) ∷
      Check ∷ [])
      (answered (conflict (wall_at 0 ∷ [])) ∷ answered (pass 0) ∷ answered (pass 1) ∷ refused 6 ∷ done ∷ refused 7 ∷
      answered (pass 0) ∷ [])
  -- a record that disagrees is 5 before all else; a stale one is such
  pub lent-answers : (m : List ℕ) → length m ≡ 1984
      → map told_by (given_on m)
      ≡ done ∷ refused 5 ∷ answered (conflict (wall_at 0 ∷ [])) ∷ refused 5 ∷ done ∷ answered (pass 0)
      ∷ answered (pass 1) ∷ refused 6 ∷ []
  -- a decide or an undo that is done updates the record; nothing else does
  pub lent-records : (m : List ℕ) → length m ≡ 1984
      → map (λ (g : Given). g.tally) (given_on m)
      ≡ some (tally_of 0 1 0) ∷ some (tally_of 1 0 0) ∷ some (tally_of 0 1 0) ∷ some (tally_of 0 0 1)
      ∷ some (tally_of 1 0 0) ∷ some (tally_of 1 0 0) ∷ none ∷ some (tally_of 1 0 0) ∷ []
