-- The loop's invariant: `right` says whether the borders before i are right.
use Rattle.std.proofs.Common.{◌≡◌}
use Rattle.board.specs.Alien.{borders_by}
use Rattle.board.proofs.conditions.borders_right.Given as goal

abbrev pub invariant-loop-i : goal.invariant-loop-i
invariant-loop-i l = l.right ≡ borders_by l.borders l.seen l.i
