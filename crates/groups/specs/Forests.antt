-- How the array of parents stands to the labels of crate rules.
--
--   Forest p            p has for each of 1,024 cells a parent that is no later
--   Rep n p L           each cell's root in the forest p is its label in L
--   ForestLinked h w link p  p represents the labels once all borders of a page are taken
use Rattle.std.specs.Prelude.{◌≡◌, Bool, List, ℕ, ◌*◌, ◌<◌, ◌≤◌, length, get_or}
use Rattle.rules.specs.Flat.{flat, border_count}
use Rattle.laws.specs.LabelLaws.{labels_after, Labelled}

pub record Forest (p : List ℕ) : Type 0 where
  pub long : length p ≡ 1024
  pub down : (x : ℕ) → get_or p x 0 ≤ x

pub record Rep (n : ℕ) (p L : List ℕ) : Type 0 where
  pub labelled : Labelled n L
  pub same : (x : ℕ) → x < n → get_or L (get_or p x 0) 0 ≡ get_or L x 0
  pub root : (x : ℕ) → x < n → get_or p x 0 ≡ x → get_or L x 0 ≡ x

pub record ForestLinked (h w : ℕ) (link : ℕ → Bool) (p : List ℕ) : Type 0 where
  pub forest : Forest p
  pub rep : Rep (h * w) p (labels_after (flat h w) link (border_count h w))
