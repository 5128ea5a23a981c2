-- `shapes::has_cell` meets its contract: coordinates below 0 are off the page, others are natural numbers.
use mathlib.Core.Path.{◌≡◌, refl, sym, ap, ◌∙◌}
use Rattle.std.proofs.lemmas.Grind.{common_steps}
use mathlib.Core.Bool.{Bool, not, true≢false}
use native.Mathlib.Omega.{arith}
use lib.IntN.{ℤ, pos, negsuc}
use lib.Signed.{le_z}
use mir.Syntax.{w32}
use mir.Val.{SFits, to_z, of_z}
use mir.Facts.{to_z-of_z}
use Rattle.rules.specs.Shapes.{lessℤ}
use Rattle.shapes.specs.UnitLaws.{shape-off-above, shape-off-left, on-page}
use Rattle.shapes.proofs.has_cell.Goals.{then-y-ge0, else-y-ge0}
use Rattle.shapes.proofs.has_cell.Goals as goal

-- a test against 0
tested : (y : ℤ) → not (le_z (pos 0) y) ≡ lessℤ y (pos 0)
tested (pos n) = grind (arith, common_steps)
tested (negsuc n) = refl

below : {y : ℤ} {t : Bool} → SFits w32 y → le_z (pos 0) (to_z w32 (of_z w32 y)) ≡ t → lessℤ y (pos 0) ≡ not t
below {y} f e = sym (tested y) ∙ ap not (ap (le_z (pos 0)) (sym (to_z-of_z {w = w32} {z = y} f)) ∙ e)

pub returns-then-x-ge0 : goal.returns-then-x-ge0
returns-then-x-ge0 c = elim c.if-y-ge0.branch [
  | then-y-ge0 w ↦
      c.cell_in.ensures
      ∙ simp (to_z-of_z c.ranges.y, to_z-of_z c.ranges.x)
      (sym (on-page _ _ _ _ c.args.y c.args.x (below c.ranges.y w.if-y-ge0.true)
      (below c.ranges.x (sym w.value-is ∙ c.if-x-ge0.true))))
  | else-y-ge0 w ↦ absurd (true≢false (sym c.if-x-ge0.true ∙ (w.value-is ∙ w.if-y-ge0.false)))
]

pub returns-else-x-ge0 : goal.returns-else-x-ge0
returns-else-x-ge0 c = elim c.if-y-ge0.branch [
  | then-y-ge0 w ↦
      c.if-x-ge0.false
      ∙ sym (shape-off-left _ _ _ _ c.args.y c.args.x (below c.ranges.x (sym w.value-is ∙ c.if-x-ge0.false)))
  | else-y-ge0 w ↦
      c.if-x-ge0.false ∙ sym (shape-off-above _ _ _ _ c.args.y c.args.x (below c.ranges.y w.if-y-ge0.false))
]
