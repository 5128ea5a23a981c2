-- The loop's invariant: the clues before i are stored.
use Rattle.std.proofs.Common.{◌≡◌, take}
use Rattle.std.proofs.Math.Seq.{sets}
use Rattle.lists.specs.Lists.{flat_map}
use Rattle.image.specs.Image.{clue_bytes}
use Rattle.image.proofs.making.put_clues.Given as goal

abbrev pub invariant-loop-i : goal.invariant-loop-i
invariant-loop-i l = l.s ≡ sets l.initial.s 1026 (flat_map clue_bytes (take l.i l.clues))
