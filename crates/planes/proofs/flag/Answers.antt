-- One bit more in the row of the cell.
-- the cell's row and column
use Prim.Native.Nat.{◌/◌, ◌%◌, ◌<◌}
use native.Mathlib.Omega.{arith}
use Rattle.planes.specs.MaskLaws.{masked-more, place_in}
use Rattle.planes.proofs.flag.Goals.{Start}
use Rattle.planes.proofs.flag.Goals as goal

low : (s : Start) → (s.args.c / s.args.w < 32) × (s.args.c % s.args.w < 32)
low s = place_in s.args.c s.requires.0 s.requires.1

pub returns : goal.returns
returns c =
    λ xs m. masked-more c.args.w c.args.c (low (goal.at.returns c).Start).0
    (omega (arith, (low (goal.at.returns c).Start).1)) m
