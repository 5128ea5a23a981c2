-- A closed witness: on the 1×2 page with the colours 01 and the clue 1, the open border is a solution and the wall is
-- none, by the rules alone; and lists of calls in which these full settings stood at a check and at a preview. It is
-- shown in proofs/WitnessLaws.
use Rattle.std.specs.Prelude.{◌≡◌, List, [], ◌∷◌, ℕ, ◌<◌, pos, negsuc}
use Rattle.rules.specs.declared.Literal.{Literal}
use Rattle.rules.specs.declared.Call.TheVariants.{Decide, Check, Preview}
use Rattle.rules.specs.Page.{Puzzle, State, undecided, open_at, wall_at}
use Rattle.rules.specs.Rules.{Solution}
use Rattle.rules.specs.Book.{Asked, ask, done, answered, fresh_book, states, looked}
use Rattle.rules.specs.Book.{book_after, replies}
use Rattle.rules.specs.Check.{check}
use Rattle.argument.specs.Boards.{pair_puzzle}

-- 1×2, 01, the clue 1 at (0,0)
abbrev pub small : Puzzle
small = pair_puzzle (pos 1 ∷ negsuc 0 ∷ [])

abbrev pub opened : ℕ → State
opened = states (open_at 0 ∷ [])

abbrev pub walled : ℕ → State
walled = states (wall_at 0 ∷ [])

-- a decision and a check, with memory enough
abbrev pub calls : Literal → List Asked
calls l = ask 0 (Decide l) ∷ ask 1984 Check ∷ []

-- a preview, with memory enough
abbrev pub preview_only : Literal → List Asked
preview_only l = ask 1984 (Preview l) ∷ []

pub record Witness : Type 0 where
  -- a solution, and a full setting that is none
  pub solves : Solution small opened
  pub fails : Solution small walled → ⊥
  pub full : (b : ℕ) → b < small.page.borders → walled b ≡ undecided → ⊥
  -- each stood at a check that was answered
  pub open-stood : (book_after small (calls (open_at 0))).sequence ≡ open_at 0 ∷ []
  pub open-answered : replies small (calls (open_at 0)) ≡ done ∷ answered (check small opened) ∷ []
  pub wall-stood : (book_after small (calls (wall_at 0))).sequence ≡ wall_at 0 ∷ []
  pub wall-answered : replies small (calls (wall_at 0)) ≡ done ∷ answered (check small walled) ∷ []
  -- each stood at a preview that was answered alike, and the book's sequence is still empty
  pub open-looked : looked [] (Preview (open_at 0)) ≡ open_at 0 ∷ []
  pub open-previewed : replies small (preview_only (open_at 0)) ≡ answered (check small opened) ∷ []
  pub open-left : book_after small (preview_only (open_at 0)) ≡ fresh_book
  pub wall-looked : looked [] (Preview (wall_at 0)) ≡ wall_at 0 ∷ []
  pub wall-previewed : replies small (preview_only (wall_at 0)) ≡ answered (check small walled) ∷ []
  pub wall-left : book_after small (preview_only (wall_at 0)) ≡ fresh_book
