-- `digits_at` meets its contract: the digits passed stand before those read on from i.
use Prim.Native.Nat.{◌+◌}
use Rattle.page.specs.Places.{digits_in}
use Rattle.page.specs.ParserLaws.{after_digits}
use Rattle.page.specs.Parsers.{rest, digits, digits_on}
use mathlib.Core.Path.{◌≡◌}
use Rattle.page.proofs.bytes.digits_at.Given as goal

abbrev pub invariant-loop-i : goal.invariant-loop-i
invariant-loop-i l =
    digits l.stop (rest l.s l.at)
    ≡ after_digits (digits_in l.s l.at (l.at + 1 + l.i)) (digits_on l.stop (rest l.s (l.at + 1 + l.i)))
