-- The loop's invariant: the numbers before i are stored.
use Rattle.std.proofs.Common.{◌≡◌, take}
use Rattle.std.proofs.Math.Seq.{sets}
use Rattle.probe.specs.ProbeTransform.{counts_of}
use Rattle.probe.proofs.transform.put_counts.Given as goal

abbrev pub invariant-loop-i : goal.invariant-loop-i
invariant-loop-i l = l.counts ≡ sets l.initial.counts 0 (take l.i (counts_of l.fn.answer))
