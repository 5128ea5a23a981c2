-- `shapes::fixes` meets its contract: the images within the unit are as many as its cells, so they are its cells.
-- the first cell's row and column
use mathlib.Core.Path.{◌≡◌, ap, ◌∙◌}
use native.Mathlib.Omega.{arith}
use lib.ListN.{get_or}
use Rattle.lists.specs.SectionLaws.{section-at, front_at}
use Rattle.rules.specs.Page.{◌⊕◌, opposite}
use Rattle.shapes.specs.Outlines.{rows_in, columns_in}
use Rattle.shapes.specs.Spots.{place_at}
use Rattle.shapes.specs.SpotLaws.{near-least, near-small, shift_small}
use Rattle.shapes.specs.UnitLaws.{within-fixes}
use Rattle.shapes.proofs.fixes.Goals.{Start}
use Rattle.shapes.proofs.fixes.Goals as goal

row_at : (s : Start) → get_or s.args.outline.now 0 0 ≡ get_or (rows_in s.args.outline.now) 0 0
row_at s = front_at 1024 s.args.outline.now 0 (omega arith)

column-at : (s : Start) → get_or s.args.outline.now 1024 0 ≡ get_or (columns_in s.args.outline.now) 0 0
column-at s = section-at 1024 1024 s.args.outline.now 0 (omega arith)

pub shift-v-requires : goal.shift-v-requires
shift-v-requires c =
    let u = c.requires.1.spotted in (
      near-small c.least-m.result c.least-m.ensures
          (near-least c.args.row _ u),
      rw (row_at (goal.at.shift-v-requires c).Start) (u.down 0 u.some),
      rw (column-at (goal.at.shift-v-requires c).Start) (u.across 0 u.some),
    )

pub within-requires : goal.within-requires
within-requires c =
    let u = c.requires.1.spotted in
    let m = c.least-m in (
      c.requires.0,
      shift_small c.shift-v.result m.result _ _ c.shift-v.ensures m.ensures
          (near-least c.args.row _ u) (rw (row_at (goal.at.within-requires c).Start) (u.down 0 u.some))
          (rw (column-at (goal.at.within-requires c).Start) (u.across 0 u.some)),
      c.requires.1,
    )

pub returns : goal.returns
returns c =
    c.within.ensures
    ∙ within-fixes _ _ c.args.units.now _ c.args.outline.now c.args.row _ c.requires.1
    (rw (← row_at (goal.at.returns c).Start, ← column-at (goal.at.returns c).Start) (c.shift-v.ensures
    ∙ ap (λ p. opposite p ⊕ place_at (get_or c.args.outline.now 0 0) (get_or c.args.outline.now 1024 0))
    c.least-m.ensures))
