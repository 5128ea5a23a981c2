-- `board_of` meets its contract: the arrays are cut to the page's cells.
use mathlib.Core.Path.{sym, ap, ◌∙◌}
use lib.Seq.{length-take-le}
use Rattle.board.specs.declared.Returned.{Returned}
use Rattle.page.specs.Places.{sheet_at}
use native.Mathlib.Omega.{arith}
use Rattle.transcript.specs.Left.{board_at}
use Rattle.board.specs.ConditionLaws.{cells-of-le}
use Rattle.transcript.proofs.board_of.Goals as goal

pub slice_bounds-colours-end : goal.slice_bounds-colours-end
slice_bounds-colours-end c =
    let p = c.args.p in
    omega (arith, c.cell_count-n.ensures, cells-of-le p.height p.width)

pub slice_bounds-fresh-end : goal.slice_bounds-fresh-end
slice_bounds-fresh-end c =
    let p = c.args.p in
    sym (length-take-le _ _ (omega (arith, c.cell_count-n.ensures, cells-of-le p.height p.width)))

pub slice_bounds-clues-end : goal.slice_bounds-clues-end
slice_bounds-clues-end c =
    let p = c.args.p in
    omega (arith, c.cell_count-n.ensures, cells-of-le p.height p.width)

pub slice_bounds-fresh-end-2 : goal.slice_bounds-fresh-end-2
slice_bounds-fresh-end-2 c =
    let p = c.args.p in
    sym (length-take-le _ _ (omega (arith, c.cell_count-n.ensures, cells-of-le p.height p.width)))

pub returns : goal.returns
unfolding board_at sheet_at
returns c =
    ap (λ (r : Returned). r.board) c.fresh.ensures
    ∙ rw (
      c.cell_count-n.ensures,
      c.colours-colours.ensures,
      c.clues-clues.ensures,
    )
