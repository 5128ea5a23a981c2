-- The loop's invariant: the rows before y are written.
use mathlib.Core.Path.{◌≡◌}
use Prim.Native.Nat.{ℕ, ◌≤◌, ◌<◌}
use lib.ListN.{length, get_or}
use Rattle.planes.specs.Masks.{clear_word}
use Rattle.stuck.proofs.survivors.survivors.Given as goal

abbrev pub invariant-loop-y : goal.invariant-loop-y
invariant-loop-y l =
    (l.y ≤ l.h) × (length l.rows ≡ 32)
    × ((i : ℕ) → i < l.y → get_or l.rows i 0 ≡ clear_word l.planes i l.turned (get_or l.mask i 0) l.n)
