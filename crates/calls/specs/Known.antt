-- Known: a board that is not alien, without its stack, and what Check gives of it.
--
--   KnownBoard h w cs ks bs n   with some stack and a tally of n undecided borders these arrays are a board that is not
--                               alien
--   found_in h w cs ks bs       what Check gives of the puzzle and the borders that these arrays spell
use Rattle.std.specs.Prelude.{◌≡◌, false, List, ℕ, ℤ}
use Rattle.rules.specs.declared.Tally.{Tally}
use Rattle.rules.specs.Codes.{states_in, puzzle_in}
use Rattle.rules.specs.Check.{Verdict, check}
use Rattle.board.specs.Alien.{board_of, is_alien}

pub record KnownBoard (h w : ℕ) (cs : List ℕ) (ks : List ℤ) (bs : List ℕ) (n : ℕ) : Type 0 where
  pub stack : List ℕ
  pub count : ℕ
  pub tally : Tally
  pub native : is_alien (board_of h w cs ks bs stack count tally) ≡ false
  pub stored : tally.undecided ≡ n

abbrev pub found_in : ℕ → ℕ → List ℕ → List ℤ → List ℕ → Verdict
found_in h w cs ks bs = check (puzzle_in h w cs ks) (states_in bs)
