-- `with_digits` meets its contract: the digits from p on are still to be laid; past 1,024 none is.
use Rattle.page.specs.Filling.{Laying}
use Rattle.page.specs.Places.{digits_in}
use lib.ListN.{length}
use mathlib.Core.Path.{◌≡◌}
use Rattle.page.proofs.filling.Laid.with_digits.Given as goal

abbrev pub invariant-loop-p : goal.invariant-loop-p
invariant-loop-p l =
    (length l.self.cells ≡ 1024)
    × Laying l.initial.self (digits_in l.s l.fn.digits.from l.p-end) l.self (digits_in l.s l.p l.p-end)
