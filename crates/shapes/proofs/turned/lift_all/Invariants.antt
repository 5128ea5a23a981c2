-- The loop's invariant: the coordinates before i are stored, and nothing outside their section.
use mathlib.Core.Path.{◌≡◌}
use Prim.Native.Nat.{ℕ, ◌+◌, ◌≤◌, ◌<◌}
use lib.ListN.{get_or}
use Rattle.lists.specs.Sections.{section, Only}
use Rattle.shapes.specs.Outlines.{joint_count}
use Rattle.shapes.specs.Raising.{lift_of}
use Rattle.shapes.proofs.turned.lift_all.Given as goal

abbrev pub invariant-loop-i : goal.invariant-loop-i
invariant-loop-i l =
    (l.i ≤ joint_count l.outline) × Only l.to (l.to + 2048) l.initial.turned l.turned
    × ((j : ℕ) → j < l.i → get_or (section l.to 2048 l.turned) j 0
    ≡ lift_of l.minus l.base (get_or (section l.from 2048 l.outline) j 0))
