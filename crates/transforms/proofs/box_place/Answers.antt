-- `transforms::box_place` meets its contract: the differences are small, and are the coordinates of the place.
-- a number less 33
use mathlib.Core.Path.{◌≡◌, refl, ap, ◌∙◌}
use Prim.Native.Nat.{ℕ, ◌/◌, ◌%◌, ◌<◌}
use native.Mathlib.Omega.{arith}
use lib.IntN.{pos, negsuc, ◌+ℤ◌, ◌-ℤ◌}
use mir.Syntax.{w32}
use mir.Val.{SFits, to_z, of_z}
use mir.Facts.{to_z-of_z}
use mir.ValLaws.{to_z_pos}
use Rattle.rules.specs.Page.{◌⊕◌}
use Rattle.rules.specs.Flat.{flat_place}
use Rattle.laws.specs.PointLaws.{point-eq}
use Rattle.shapes.specs.Pairs.{Small}
use Rattle.shapes.specs.PairLaws.{mag_sum}
use Rattle.transforms.specs.Box.{box_at}
use Rattle.transforms.proofs.box_place.Goals as goal

less-is : (n : ℕ) → n < 66 → to_z w32 n -ℤ pos 33 ≡ pos n +ℤ negsuc 32
less-is n h = ap (λ k. k -ℤ pos 33) (to_z_pos w32 n (omega arith))

less-fits : (n : ℕ) → n < 66 → SFits w32 (to_z w32 n -ℤ pos 33)
less-fits n h = rw (less-is n h) (record { sfits = omega (arith, mag_sum (pos n) (negsuc 32)) })

less-back : (n : ℕ) → n < 66 → to_z w32 (of_z w32 (to_z w32 n -ℤ pos 33)) ≡ pos n +ℤ negsuc 32
less-back n h = to_z-of_z {w = w32} {z = to_z w32 n -ℤ pos 33} (less-fits n h) ∙ less-is n h

less-small : (n : ℕ) → n < 66 → Small (to_z w32 (of_z w32 (to_z w32 n -ℤ pos 33)))
less-small n h = rw (less-back n h) (omega (arith, mag_sum (pos n) (negsuc 32)))

pub returns : goal.returns
unfolding box_at flat_place ◌⊕◌
returns c = (
  point-eq refl (less-back (c.args.i / 66) (omega arith)) (less-back (c.args.i % 66) (omega arith)),
  record {
    down = less-small (c.args.i / 66) (omega arith);
    across = less-small (c.args.i % 66) (omega arith);
  },
)
