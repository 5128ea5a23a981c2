-- The loop's invariant: the cells before c are flagged.
use mathlib.Core.List.{List, ◌++◌}
use Prim.Native.Nat.{ℕ}
use Rattle.lists.specs.Parts.{part}
use Rattle.planes.specs.Masks.{Masked}
use Rattle.planes.proofs.flag_group.Given as goal

abbrev pub invariant-loop-c : goal.invariant-loop-c
invariant-loop-c l =
    (xs : List ℕ) → Masked l.w xs l.initial.mask → Masked l.w (xs ++ part l.cells 0 l.c-index) l.mask
