-- `clues` meets its contract: the clues from p on are still to be stored.
use Rattle.page.specs.Filling.{placed-none, placed-more, placed_off, Stores, stores}
use Rattle.page.specs.FormLaws.{from-none, from_more}
use Rattle.page.specs.Many.{passes}
use Rattle.page.specs.PageText.{clue-takes}
use Rattle.page.specs.Places.{got_value}
use borrow.Author.Rules.{rules}
use lib.ListN.{length-set}
use mathlib.Core.Path.{sym, ◌∙◌, refl}
use mir.Facts.{to_z_pos}
use mir.Syntax.{w32}
use native.Mathlib.Omega.{arith}
use Rattle.page.proofs.filling.clues.Goals.{In-Some}
use Rattle.page.proofs.filling.clues.Goals as goal

fits : (c : In-Some)
    → Stores c.args.w c.in-Some.c
unfolding got_value
fits c =
    stores _ _ _ _ c.requires
    (sym c.in-Some.ensures)

pub loop-c-init : goal.loop-c-init
loop-c-init c = (search rules, refl)

pub overflow_mul-cell : goal.overflow_mul-cell
overflow_mul-cell c = omega (arith, (fits (goal.at.overflow_mul-cell c).In-Some).product)

pub overflow_add-cell : goal.overflow_add-cell
overflow_add-cell c = let f = fits (goal.at.overflow_add-cell c).In-Some in omega arith

pub overflow_cast-out : goal.overflow_cast-out
overflow_cast-out c = let f = fits (goal.at.overflow_cast-out c).In-Some in record { sfits = omega arith }

pub loop-c-smaller-then-cell-lt-CELL_LIMIT : goal.loop-c-smaller-then-cell-lt-CELL_LIMIT
unfolding got_value
loop-c-smaller-then-cell-lt-CELL_LIMIT c =
    passes clue-takes _ _ _ _
    (sym c.in-Some.ensures)

pub loop-c-preserved-then-cell-lt-CELL_LIMIT : goal.loop-c-preserved-then-cell-lt-CELL_LIMIT
unfolding got_value
loop-c-preserved-then-cell-lt-CELL_LIMIT c =
    let f = fits (goal.at.loop-c-preserved-then-cell-lt-CELL_LIMIT c).In-Some in (
      simp length-set c.loop-c.invariant.0,
      c.loop-c.invariant.1 ∙
          rw (to_z_pos w32 {n = c.in-Some.c.n} (omega arith))
          (placed-more _ _ (from_more clue-takes _ _ _ _
          (sym c.in-Some.ensures))),
    )

pub loop-c-smaller : goal.loop-c-smaller
unfolding got_value
loop-c-smaller c =
    passes clue-takes _ _ _ _
    (sym c.in-Some.ensures)

pub loop-c-preserved : goal.loop-c-preserved
unfolding got_value
loop-c-preserved c = (
  search rules,
  c.loop-c.invariant.1
      ∙ placed_off _ _ (from_more clue-takes _ _ _ _
      (sym c.in-Some.ensures)) (search rules),
)

pub returns : goal.returns
unfolding got_value
returns c = sym (c.loop-c.invariant.1 ∙ placed-none _ _ (from-none clue-takes _ _ (sym c.in_default.ensures)))
