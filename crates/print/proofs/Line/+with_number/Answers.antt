-- `with_number` meets its contract: the last digit after the number's tenth; n falls.
use Rattle.std.proofs.Common.{ap, arith}
use Rattle.page.specs.NumberText.{decimal-one}
use Rattle.print.specs.Lines.{decimal-last, decimal-long, written-more}
use Rattle.print.proofs.Line.+with_number.Goals as goal
use lib.ListN.{length}

pub with_byte-requires : goal.with_byte-requires
with_byte-requires t c = omega (arith, ap length (decimal-one _ c.if-n-lt10.true), c.requires)

pub returns-then-n-lt10 : goal.returns-then-n-lt10
returns-then-n-lt10 t c = rw (decimal-one _ c.if-n-lt10.true) c.with_byte.ensures

pub with_number-requires : goal.with_number-requires
with_number-requires t c =
    (omega arith, omega (arith, decimal-long _ c.if-n-lt10.false, c.requires))

pub with_byte-requires-2 : goal.with_byte-requires-2
with_byte-requires-2 t c =
    omega (arith, c.with_number.ensures.next, decimal-long _ c.if-n-lt10.false, c.requires)

pub returns : goal.returns
returns t c =
    rw (decimal-last _ c.if-n-lt10.false)
    (written-more c.with_number.ensures c.with_byte-2.ensures)
