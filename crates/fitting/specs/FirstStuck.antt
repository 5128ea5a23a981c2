-- Step 3's search for a unit that does not fit.
--
--   first_from f i n, first_fail f n  the first number from i on, from 0 on, that fails the test, if one of n does
--   Passed f n i        the first of n numbers that fails the test is the first from i on
--   fits_on U xs        a placement of unit U fits; xs are its cells
--   fits_unit U         the same
--   stuck_hit U         step 3's hit, where U is the first unit that does not fit, if one does not
use Rattle.std.specs.Prelude.{◌≡◌, Bool, true, cond, List, [], ◌∷◌, ℕ, zero, suc, ◌-◌, ◌≤◌}
use Rattle.std.specs.Prelude.{Option, Some, None}
use Rattle.std.proofs.Math.Option.{Option as Maybe, some, none}
use Rattle.lists.specs.Lists.{any}
use Rattle.rules.specs.Page.{State, Puzzle}
use Rattle.rules.specs.Groups.{members, unit_of, potential_of}
use Rattle.rules.specs.Check.{Reason, is_fit, placements, unit_reason}
use Rattle.groups.specs.Pages.{potential_in}

-- the first number from i on that fails the test, among n
unfoldable pub first_from : (ℕ → Bool) → ℕ → ℕ → Option ℕ
first_from f i zero = None
first_from f i (suc n) = cond (f i) (first_from f (suc i) n) (Some i)

unfoldable pub first_fail : (ℕ → Bool) → ℕ → Option ℕ
first_fail f n = first_from f 0 n

pub record Passed (f : ℕ → Bool) (n i : ℕ) : Type 0 where
  pub most : i ≤ n
  pub left : first_fail f n ≡ first_from f i (n - i)

module _ (Z : Puzzle) (s : ℕ → State) where
  -- "Per unit U in potential unit P": that of its cells; no cell, no hit
  unfoldable pub fits_on : ℕ → List ℕ → Bool
  fits_on U [] = true
  fits_on U (x ∷ xs) = any (is_fit Z s) (placements Z s U (potential_of Z s x))

  unfoldable pub fits_unit : ℕ → Bool
  fits_unit U = fits_on U (members Z.page (unit_of Z s) U)

  -- the reason of the unit at which a search stopped
  unfoldable pub stuck_hit : Option ℕ → Maybe Reason
  stuck_hit None = none
  stuck_hit (Some U) = some (unit_reason Z s U (potential_in Z s U))
