-- A call leaves an alien image as it is.
use Rattle.std.specs.Prelude.{◌≡◌, true, List, length}
use Rattle.std.proofs.Math.Path.{refl, sym}
use Rattle.std.proofs.Common.{◌∙◌}
use Prim.Native.Nat.{ℕ}
use Rattle.std.proofs.Math.Decide.{ℕ_discrete}
use native.Mathlib.Omega.{arith}
use Rattle.image.specs.Image.{spelled_board, Bytes, ImageCall}
use Rattle.image.specs.Image.{image_alien, image_after}
use Rattle.image.specs.CallLaws.{length-after, after-refused}
use Rattle.image.specs.SeriesLaws.{alien-number}

pub alien-stays : (s : List ℕ) → Bytes s → image_alien s ≡ true → (a : ImageCall) → s ≡ image_after s a
alien-stays s h k a = go (ℕ_discrete (length s) 11082)
  where
    go : Dec (length s ≡ 11082) → s ≡ image_after s a
    go (yes l) =
        after-refused s h l (spelled_board s) refl a
        (λ z. let g : 5 ≡ 0 = sym (alien-number s k a) ∙ z in omega arith)
    go (no l) = length-after s a l
