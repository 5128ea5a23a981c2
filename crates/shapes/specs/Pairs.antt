-- A place of the code as a place of the definitions, and a row of signs and swaps put to it.
--
--   point_at y x, point_of p  the place (y,x) of a flat page
--   Small z, SmallPair p  the number is, both coordinates are, far from where 32 bits end
--   SumFits p q, DifferenceFits p q  the sums, or the differences, of their coordinates have 32 bits
--   Sign z, BothSigns s  z is 1 or -1; both numbers of s are
--   turn_by s y x       (y,x) swapped or not, the new coordinates times the signs of s
--   sign_of b           the sign as the code has it: -1 where it changes, otherwise 1
--   swaps a             whether a new row that is read from the axis a was a column
--   signs_of t          a row of the definition's table as the code has it
use Rattle.std.specs.Prelude.{◌≡◌, ◌⊎◌, Bool, true, false, cond, ◌<◌, ℤ, pos, negsuc, ◌+ℤ◌, ◌-ℤ◌, ◌*ℤ◌}
use Rattle.std.proofs.Common.{SFits}
use Rattle.std.specs.Int.{w32}
use Rattle.std.specs.Int.Signed.{mag}
use Rattle.rules.specs.Page.{Point}
use Rattle.rules.specs.Turns.{Axis, layerward, rowward, columnward, Turn}
use Rattle.shapes.specs.declared.Pair.{Pair}
use Rattle.shapes.specs.declared.Signs.{Signs}

abbrev pub point_at : ℤ → ℤ → Point
point_at y x = record { layer = pos 0; row = y; column = x }

abbrev pub point_of : Pair → Point
point_of p = point_at p.y p.x

abbrev pub Small : ℤ → Type 0
Small z = mag z < 4096

pub record SmallPair (p : Pair) : Type 0 where
  pub down : Small p.y
  pub across : Small p.x

pub record SumFits (p q : Pair) : Type 0 where
  pub down : SFits w32 (p.y +ℤ q.y)
  pub across : SFits w32 (p.x +ℤ q.x)

pub record DifferenceFits (p q : Pair) : Type 0 where
  pub down : SFits w32 (p.y -ℤ q.y)
  pub across : SFits w32 (p.x -ℤ q.x)

abbrev pub Sign : ℤ → Type 0
Sign z = (z ≡ pos 1) ⊎ (z ≡ negsuc 0)

pub record BothSigns (s : Signs) : Type 0 where
  pub down : Sign s.down
  pub across : Sign s.across

unfoldable pub turn_by : Signs → ℤ → ℤ → Pair
turn_by s y x =
    cond s.swap (record { y = s.down *ℤ x; x = s.across *ℤ y })
    (record { y = s.down *ℤ y; x = s.across *ℤ x })

abbrev pub sign_of : Bool → ℤ
sign_of true = negsuc 0
sign_of false = pos 1

abbrev pub swaps : Axis → Bool
swaps layerward = false
swaps rowward = false
swaps columnward = true

-- "eight rows of signs and swaps"
abbrev pub signs_of : Turn → Signs
signs_of t =
    record { swap = swaps t.rows.axis; down = sign_of t.rows.minus; across = sign_of t.columns.minus }
