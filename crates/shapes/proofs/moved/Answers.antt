-- `shapes::moved` meets its contract: the two coordinates are small numbers, read back as they were.
-- the two places read are those of the cell's row and column
use mathlib.Core.Path.{◌≡◌, ap, ap₂, ◌∙◌}
use Prim.Native.Nat.{◌+◌}
use native.Mathlib.Omega.{arith}
use lib.IntN.{pos}
use lib.ListN.{get_or}
use Rattle.lists.specs.SectionLaws.{section-at, front_at}
use Rattle.shapes.specs.Outlines.{rows_in, columns_in}
use Rattle.shapes.specs.Pairs.{turn_by}
use Rattle.shapes.specs.PairLaws.{read_back}
use Rattle.shapes.proofs.moved.Goals.{Start}
use Rattle.shapes.proofs.moved.Goals as goal

row_at : (s : Start) → get_or s.args.outline.now s.args.i 0
    ≡ get_or (rows_in s.args.outline.now) s.args.i 0
row_at s = front_at 1024 s.args.outline.now s.args.i s.requires.1.inside

column-at : (s : Start) → get_or s.args.outline.now (1024 + s.args.i) 0
    ≡ get_or (columns_in s.args.outline.now) s.args.i 0
column-at s = section-at 1024 1024 s.args.outline.now s.args.i s.requires.1.inside

pub turn-requires : goal.turn-requires
turn-requires c = (
  c.requires.0,
  rw (read_back _ c.from.ensures (omega (arith, row_at (goal.at.turn-requires c).Start, c.requires.1.down)))
      (omega (arith, row_at (goal.at.turn-requires c).Start, c.requires.1.down)),
  rw (read_back _ c.from-2.ensures (omega (arith, column-at (goal.at.turn-requires c).Start, c.requires.1.across)))
      (omega (arith, column-at (goal.at.turn-requires c).Start, c.requires.1.across)),
)

pub returns : goal.returns
returns c =
    c.turn.ensures
    ∙ ap₂ (turn_by c.args.s)
    (read_back _ c.from.ensures (omega (arith, row_at (goal.at.returns c).Start, c.requires.1.down))
    ∙ ap pos (row_at (goal.at.returns c).Start))
    (read_back _ c.from-2.ensures (omega (arith, column-at (goal.at.returns c).Start, c.requires.1.across))
    ∙ ap pos (column-at (goal.at.returns c).Start))
