-- `shapes::places` meets its contract. The loop's invariant: the entries passed are the rows and columns of their
-- cells.
use mathlib.Core.Path.{refl, ap, ◌∙◌}
use Prim.Native.Nat.{ℕ, ◌/◌, ◌%◌, ◌≤◌, ◌<◌}
use native.Mathlib.Omega.{arith}
use lib.ListN.{length, get_or, length-set}
use Rattle.lists.specs.SectionLaws.{section-length}
use Rattle.lists.specs.TableLaws.{stored_more}
use Rattle.shapes.specs.Outlines.{rows_in, columns_in}
use Rattle.shapes.specs.PartLaws.{row-stored, column-stored, part-count, placed-is, placed-count}
use Rattle.shapes.proofs.connections.places.Goals.{After-cells_of-cells}
use Rattle.shapes.proofs.connections.places.Goals as goal

few : (a : After-cells_of-cells) → length a.cells_of-cells.result.now ≤ 1024
few a = omega (arith, ap length a.cells_of-cells.ensures, part-count a.requires.0, a.requires.0.inside)

pub loop-i-preserved : goal.loop-i-preserved
loop-i-preserved c =
    let cells = c.cells_of-cells.result.now in
    let w = c.args.w in
    let v = c.loop-i.invariant in
    let i = c.loop-i.i in
    let o = c.loop-i.outline in
    let y = get_or cells i 0 / w in
    let x = get_or cells i 0 % w in
    let low : i < 1024 = omega (arith, few (goal.at.loop-i-preserved c).After-cells_of-cells) in (
      simp length-set v.0,
      rw (row-stored o i y x low)
          (stored_more (λ j. get_or cells j 0 / w) 0 y (rows_in o) i
          (omega (arith, v.0, section-length 0 1024 o (omega (arith, v.0)))) refl v.1),
      rw (column-stored o i y x low)
          (stored_more (λ j. get_or cells j 0 % w) 0 x (columns_in o) i
          (omega (arith, v.0, section-length 1024 1024 o (omega (arith, v.0)))) refl v.2),
    )

pub returns : goal.returns
returns c =
    let cells = c.cells_of-cells in
    let v = c.loop-i.invariant in
    let f = λ (j : ℕ) (l : j < length cells.result.now). v.1 j (omega arith) in
    let k = λ (j : ℕ) (l : j < length cells.result.now). v.2 j (omega arith) in (
      rw (← cells.ensures) (placed-is c.args.w cells.result.now c.loop-i.outline v.0 f k),
      placed-count c.args.w cells.result.now c.loop-i.outline v.0 f k
          ∙ (ap length cells.ensures ∙ part-count c.requires.0),
    )
