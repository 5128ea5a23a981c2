-- Raising: a unit's connections turned and shifted, raised by 64, in one array of 4,096 numbers.
--
--   ys_in t             the raised rows of the connections: places 0 to 2,047
--   xs_in t             their columns: places 2,048 to 4,095
--   lowered v           the coordinate that stands in the array as v: coordinates are raised by 64
--   raised y x          the place whose coordinates stand in the array as y and x
--   RaisedAt t i        the raised connection i is small, and one of its coordinates is odd
--   Raised t n          so are all n of them
--   raised_spot t i     the place of the raised connection i
--   spelled t n         the places of the n connections
--   lift_of minus base a  the raised coordinate of a, its sign changed if minus, shifted by what base stands for
--   turn_of swap r c    the row of the table: whether the coordinates change places, and the signs of the new ones
--   moved_by g v js     the connections js turned by g and shifted by v
--   Lifts minus base k  the coordinate k, turned and shifted, stays a byte, raised
--   Turnable            so do all of a unit's connections
use Rattle.std.specs.Prelude.{◌≡◌, Bool, true, false, cond, List, map, ℕ, ◌+◌, ◌-◌, ◌%◌, ◌≤◌, ◌<◌, ℤ, pos, ◌-ℤ◌, get_or}
use Rattle.lists.specs.Lists.{range}
use Rattle.lists.specs.Sections.{section}
use Rattle.rules.specs.Page.{Point, ◌⊕◌}
use Rattle.rules.specs.Turns.{Turn, rowward, columnward, flat_turn}

abbrev pub ys_in : List ℕ → List ℕ
ys_in t = section 0 2048 t

abbrev pub xs_in : List ℕ → List ℕ
xs_in t = section 2048 2048 t

abbrev pub lowered : ℕ → ℤ
lowered v = pos v -ℤ pos 64

abbrev pub raised : ℕ → ℕ → Point
raised y x = record { layer = pos 0; row = lowered y; column = lowered x }

pub record RaisedAt (t : List ℕ) (i : ℕ) : Type 0 where
  pub place : i < 2048
  pub row : get_or (ys_in t) i 0 < 128
  pub column : get_or (xs_in t) i 0 < 128
  pub odd : get_or (ys_in t) i 0 % 2 + get_or (xs_in t) i 0 % 2 ≡ 1

abbrev pub Raised : List ℕ → ℕ → Type 0
Raised t n = (i : ℕ) → i < n → RaisedAt t i

unfoldable pub raised_spot : List ℕ → ℕ → Point
raised_spot t i = raised (get_or (ys_in t) i 0) (get_or (xs_in t) i 0)

unfoldable pub spelled : List ℕ → ℕ → List Point
spelled t n = map (raised_spot t) (range n)

abbrev pub lift_of : Bool → ℕ → ℕ → ℕ
lift_of true base a = base - a
lift_of false base a = base + a

abbrev pub turn_of : Bool → Bool → Bool → Turn
turn_of swap r c =
    flat_turn (record { axis = cond swap columnward rowward; minus = r })
    (record { axis = cond swap rowward columnward; minus = c })

unfoldable pub moved_by : (Point → Point) → Point → List Point → List Point
moved_by g v js = map (λ j. g j ⊕ v) js

pub record Lifts (minus : Bool) (base : ℕ) (k : ℕ) : Type 0 where
  pub small : k < 128
  pub down : minus ≡ true → k ≤ base
  pub up : minus ≡ false → base + k < 128

pub record Turnable (swap r c : Bool) (y x : ℕ) (down across : List ℕ) (n : ℕ) : Type 0 where
  pub few : n ≤ 2048
  pub low : (y < 128) × (x < 128)
  pub even : (y % 2 ≡ 0) × (x % 2 ≡ 0)
  pub rows : (i : ℕ) → i < n → Lifts r y (get_or (cond swap across down) i 0)
  pub columns : (i : ℕ) → i < n → Lifts c x (get_or (cond swap down across) i 0)
  pub odd : (i : ℕ) → i < n → get_or down i 0 % 2 + get_or across i 0 % 2 ≡ 1
