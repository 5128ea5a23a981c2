-- `shapes::list_rows` meets its contract: the tests are those of the definition.
use mathlib.Core.Path.{sym, ◌∙◌}
use Rattle.shapes.specs.RowLaws.{rows-symmetric, rows-plain}
use Rattle.shapes.proofs.list_rows.Goals.{then-half, else-half}
use Rattle.shapes.proofs.list_rows.Goals as goal

pub returns : goal.returns
returns c = c.rows_by.ensures ∙ elim c.if-half.branch [
  | then-half w ↦
      rw w.if-half.true
      (rows-symmetric _ (sym c.fixes-half.ensures ∙ w.if-half.true) (w.quarter-is ∙ w.fixes-quarter.ensures)
      c.flip_listed.ensures)
  | else-half w ↦
      rw (w.quarter-is, w.if-half.false)
      (rows-plain _ (sym c.fixes-half.ensures ∙ w.if-half.false) c.flip_listed.ensures)
]
