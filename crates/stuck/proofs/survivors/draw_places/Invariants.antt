-- The loop's invariant: the places of the cells before c are written, and c is (y, x).
use mathlib.Core.Path.{◌≡◌}
use Prim.Native.Nat.{ℕ, ◌+◌, ◌*◌, ◌/◌, ◌%◌, ◌≤◌, ◌<◌}
use lib.ListN.{length, get_or}
use Rattle.stuck.proofs.survivors.draw_places.Given as goal

abbrev pub invariant-loop-c : goal.invariant-loop-c
invariant-loop-c l =
    (l.c ≤ l.h * l.w) × (length l.places ≡ 1024) × (l.c ≡ l.y * l.w + l.x) × (l.x < l.w)
    × ((i : ℕ) → i < l.c → get_or l.places i 0 ≡ i / l.w * 32 + i % l.w)
