-- A stretch of a list, and a list that was stored to within a stretch alone.
--
--   section a n l    the n places of l from a on
--   Only a e l m     m is l but for the places from a to e
use Rattle.std.specs.Prelude.{◌≡◌, List, ℕ, length, take, drop}

unfoldable pub section : ℕ → ℕ → List ℕ → List ℕ
section a n l = take n (drop a l)

pub record Only (a e : ℕ) (l m : List ℕ) : Type 0 where
  pub long : length m ≡ length l
  pub low : take a m ≡ take a l
  pub high : drop e m ≡ drop e l
