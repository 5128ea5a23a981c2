-- The loop's invariant: the codes before i are stored.
use Rattle.std.proofs.Common.{◌≡◌}
use Rattle.image.specs.Image.{put_codes}
use Rattle.image.proofs.writing.put_codes.Given as goal

abbrev pub invariant-loop-i : goal.invariant-loop-i
invariant-loop-i l = l.memory ≡ put_codes l.initial.memory l.code-items l.i
