-- `number_on` meets its contract: the number read so far goes on at i as the whole did.
use Prim.Native.Nat.{◌≤◌}
use Rattle.page.specs.Parsers.{rest, number_on}
use mathlib.Core.Path.{◌≡◌}
use Rattle.page.proofs.bytes.number_on.Given as goal

abbrev pub invariant-loop-i : goal.invariant-loop-i
invariant-loop-i l =
    (number_on l.stop l.from l.left ≡ number_on l.stop l.v (rest l.left l.i)) × (l.v ≤ 2147483647)
