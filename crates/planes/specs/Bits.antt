-- Words as rows of bits.
--
--   bit_at w x          bit x of the word w; bit 0 is the lowest
--   row_from k x f      the word of the k tests f x, f (x + 1), .., the first in the lowest bit
use Rattle.std.specs.Prelude.{Bool, ℕ, zero, suc, ◌+◌, ◌*◌, ◌/◌, ◌%◌, ◌^◌, eqb}
use Rattle.lists.specs.Count.{bit}

unfoldable pub bit_at : ℕ → ℕ → Bool
bit_at w x = eqb (w / 2 ^ x % 2) 1

unfoldable pub row_from : ℕ → ℕ → (ℕ → Bool) → ℕ
row_from zero x f = 0
row_from (suc k) x f = row_from k (suc x) f * 2 + bit (f x)
