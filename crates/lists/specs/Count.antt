-- How many numbers below a bound pass a test.
-- Assumes nothing.
--
--   bit b               1 for true, 0 for false
--   count_below n f     how many numbers below n pass the test f
use Rattle.std.specs.Prelude.{Bool, true, false, ℕ, zero, suc, ◌+◌}

abbrev pub bit : Bool → ℕ
bit true = 1
bit false = 0

-- how many numbers below n pass the test
unfoldable pub count_below : ℕ → (ℕ → Bool) → ℕ
count_below zero f = 0
count_below (suc n) f = count_below n f + bit (f n)
