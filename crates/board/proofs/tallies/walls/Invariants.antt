-- The loop's invariant: `found` is the count of walls before i.
use Rattle.std.proofs.Common.{◌≡◌}
use Rattle.board.specs.Alien.{code_count}
use Rattle.board.proofs.tallies.walls.Given as goal

abbrev pub invariant-loop-i : goal.invariant-loop-i
invariant-loop-i l = l.found ≡ code_count l.borders l.i 1
