-- The loop's invariant: the entries before i are read.
use Rattle.std.proofs.Common.{◌≡◌, ℕ, ◌+◌, ◌*◌, ◌<◌, get_or}
use Rattle.image.specs.Image.{pair}
use Rattle.image.proofs.reading.stack.Given as goal

abbrev pub invariant-loop-i : goal.invariant-loop-i
invariant-loop-i l = (j : ℕ) → j < l.i → get_or l.place-items j 0 ≡ pair l.s (7108 + 2 * j)
