-- `shapes::flip_listed` meets its contract: the reflections are tested in order.
use mathlib.Core.Path.{sym, ◌∙◌}
use native.Mathlib.Omega.{arith}
use Rattle.shapes.specs.RowLaws.{flip-some, flip-none}
use Rattle.shapes.proofs.flip_listed.Goals as goal

pub returns-then-fixes : goal.returns-then-fixes
returns-then-fixes c =
    flip-some _ c.loop-row.row (omega arith) (omega arith) (sym c.fixes.ensures ∙ c.if-fixes.true)

pub returns : goal.returns
returns c = flip-none _ (λ r a b. c.loop-row.invariant r a (omega arith))
