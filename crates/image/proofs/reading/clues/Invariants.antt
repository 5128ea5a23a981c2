-- The loop's invariant: the clues before i are read.
use Rattle.std.proofs.Common.{◌≡◌, ℕ, ◌+◌, ◌*◌, ◌<◌, pos, length, get_or}
use Rattle.image.specs.Image.{quad, from_bits}
use Rattle.image.proofs.reading.clues.Given as goal

abbrev pub invariant-loop-i : goal.invariant-loop-i
invariant-loop-i l =
    (length l.place-items ≡ 1024)
    × ((j : ℕ) → j < l.i → get_or l.place-items j (pos 0) ≡ from_bits (quad l.s (1026 + 4 * j)))
