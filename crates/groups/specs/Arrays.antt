-- Arrays that are lent to be filled.
--
--   Blank N n l      l has N places, and those from n on are 0
--   Stored n f l m   m is l with the values of f in its first n places
--   Ranked n f p     p has for each of the first n cells how many cells of its group stand before it, and is a forest
--   Numbering n count ids  ids numbers n cells below count; where count is n, each by its own place
use Rattle.std.specs.Prelude.{◌≡◌, List, ℕ, ◌<◌, ◌≤◌, length, get_or}
use Rattle.groups.specs.Forests.{Forest}
use Rattle.groups.specs.Parts.{size_among}

pub record Blank (N n : ℕ) (l : List ℕ) : Type 0 where
  pub long : length l ≡ N
  pub rest : (x : ℕ) → n ≤ x → get_or l x 0 ≡ 0

pub record Stored (n : ℕ) (f : ℕ → ℕ) (l m : List ℕ) : Type 0 where
  pub long : length m ≡ length l
  pub at : (x : ℕ) → x < n → get_or m x 0 ≡ f x
  pub rest : (x : ℕ) → n ≤ x → get_or m x 0 ≡ get_or l x 0

pub record Ranked (n : ℕ) (f : ℕ → ℕ) (p : List ℕ) : Type 0 where
  pub forest : Forest p
  pub at : (x : ℕ) → x < n → get_or p x 0 ≡ size_among x f (f x)

pub record Numbering (n count : ℕ) (ids : List ℕ) : Type 0 where
  pub few : count ≤ n
  pub under : (x : ℕ) → x < n → get_or ids x 0 < count
  pub alone : count ≡ n → (x : ℕ) → x < n → get_or ids x 0 ≡ x
