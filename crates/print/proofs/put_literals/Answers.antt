-- `put_literals` meets its contract, literal by literal.
use native.Mathlib.Omega.{arith}
use mathlib.Core.Path.{refl}
use Rattle.print.specs.Lines.{written-length}
use Rattle.print.specs.Chunks.{putting-none, putting-more, putting-stop}
use Rattle.print.proofs.put_literals.Goals as goal

pub loop-next-init : goal.loop-next-init
loop-next-init c = (refl, putting-none _ _ _ _)

pub returns-then-out-chunk-lt32 : goal.returns-then-out-chunk-lt32
returns-then-out-chunk-lt32 c = putting-stop c.loop-next.invariant.1 (λ a b x y z. omega arith)

pub loop-next-preserved : goal.loop-next-preserved
loop-next-preserved c =
    let i = c.loop-next.invariant.1 in (
      refl,
      putting-more (rw c.loop-next.invariant.0 at i) (omega arith) (omega arith) c.literal_text.ensures
          (omega (arith, i.fits, written-length i.written)) c.put_line-count.ensures,
    )
