-- A part of a list.
-- Assumes nothing.
--
--   part l from to      the elements of l from the place `from` to before the place `to`
use Rattle.std.specs.Prelude.{List, ℕ, ◌-◌, take, drop}

abbrev pub part : {A : Type 0} → List A → ℕ → ℕ → List A
part l from to = take (to - from) (drop from l)
