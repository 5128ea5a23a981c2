-- Laws of a flat page: the cells of a border by its number, and what joins them.
use Rattle.std.specs.Prelude.{◌≡◌, List, ℕ, ◌+◌, ◌-◌, ◌*◌, ◌<◌, ◌≤◌, get_or}
use Rattle.std.proofs.Common.{◌∙◌, add-mul, arith, lt-ltb, le-ltb}
use Rattle.std.proofs.Math.Arith.{digits_lt, digits_div, digits_mod}
use Rattle.rules.specs.Flat.{flat_first, flat_second, cell_at}
use Rattle.groups.specs.declared.Kind.{Kind}
use Rattle.groups.specs.Kinds.{joins_in, joins_by}
use Rattle.groups.specs.KindLaws.{joins_at}

-- the border right of cell (y, x)
module _ (h w y x : ℕ) (hy : y < h) (hx : x + 1 < w) where
  slim : x < w - 1
  slim = omega arith

  pub right_lt : y * (w - 1) + x < h * (w - 1)
  right_lt = digits_lt hy slim

  pub right-first : flat_first h w (y * (w - 1) + x) ≡ y * w + x
  unfolding flat_first cell_at
  right-first = rw (lt-ltb _ _ right_lt, digits_div y slim, digits_mod y slim)

  pub right-second : flat_second h w (y * (w - 1) + x) ≡ y * w + x + 1
  unfolding flat_second cell_at
  right-second = rw (lt-ltb _ _ right_lt, digits_div y slim, digits_mod y slim) (omega arith)

  pub joins-right : (k : Kind) (cs bs : List ℕ) → joins_in k h w cs bs (y * (w - 1) + x)
      ≡ joins_by k (get_or bs (y * (w - 1) + x) 0) (get_or cs (y * w + x) 0) (get_or cs (y * w + x + 1) 0)
  joins-right k cs bs = joins_at k h w cs bs (y * (w - 1) + x) ∙ rw (right-first, right-second)

-- the border below cell c
module _ (h w c : ℕ) where
  pub below-first : flat_first h w (h * (w - 1) + c) ≡ c
  unfolding flat_first
  below-first = rw (le-ltb (h * (w - 1) + c) (h * (w - 1)) (omega arith)) (omega arith)

  pub below-second : flat_second h w (h * (w - 1) + c) ≡ c + w
  unfolding flat_second
  below-second = rw (le-ltb (h * (w - 1) + c) (h * (w - 1)) (omega arith)) (omega arith)

  pub joins-below : (k : Kind) (cs bs : List ℕ) → joins_in k h w cs bs (h * (w - 1) + c)
      ≡ joins_by k (get_or bs (h * (w - 1) + c) 0) (get_or cs c 0) (get_or cs (c + w) 0)
  joins-below k cs bs = joins_at k h w cs bs (h * (w - 1) + c) ∙ rw (below-first, below-second)

-- the cell below
pub below-lt : (h w c : ℕ) → 1 ≤ h → c < (h - 1) * w → c + w < h * w
below-lt h w c s l =
    let e : h - 1 + 1 ≡ h = omega arith in
    let m : (h - 1 + 1) * w ≡ (h - 1) * w + w = add-mul (h - 1) 1 w ∙ omega arith in
    omega (arith, rw e at m)
