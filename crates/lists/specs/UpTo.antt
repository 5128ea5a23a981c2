-- The lists that a function of a number gives, one after another.
-- Assumes nothing.
--
--   up_to f n           f 0 ++ .. ++ f (n - 1): what a loop has gathered after n turns
use Rattle.std.specs.Prelude.{List, [], ◌++◌, ℕ, zero, suc}

unfoldable pub up_to : {A : Type 0} → (ℕ → List A) → ℕ → List A
up_to f zero = []
up_to f (suc n) = up_to f n ++ f n
