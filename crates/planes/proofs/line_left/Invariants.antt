-- The loop's invariant: the word has the origins at which the connections before j are clear.
use mathlib.Core.Path.{◌≡◌}
use Prim.Native.Nat.{◌≤◌}
use Rattle.planes.specs.Masks.{clear_word}
use Rattle.planes.proofs.line_left.Given as goal

abbrev pub invariant-loop-j : goal.invariant-loop-j
invariant-loop-j l = (l.j ≤ l.n) × (l.acc ≡ clear_word l.planes l.y l.turned l.word l.j)
