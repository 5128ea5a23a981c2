-- `transforms::put_cells` meets its contract. The loop's invariant: the cells among the places passed are written.
use mathlib.Core.Path.{◌≡◌}
use native.Mathlib.Omega.{arith}
use borrow.Author.Rules.{rules}
use Rattle.lists.specs.WroteLaws.{wrote-length}
use Rattle.rules.specs.Groups.{entry}
use Rattle.groups.specs.Grouping.{numbers_in}
use Rattle.transforms.specs.ImageLaws.{sweep-start, sweep-step, sweep-room}
use Rattle.transforms.proofs.put_cells.Goals as goal

pub loop-i-init : goal.loop-i-init
loop-i-init c = sweep-start _ _ (entry (numbers_in c.args.units.now)) _ _ _ _

pub put_cell-at-requires : goal.put_cell-at-requires
put_cell-at-requires c =
    let l = c.loop-i in (
      c.requires.0,
      c.requires.1,
      c.requires.2,
      c.requires.3,
      search rules,
      sweep-room _ _ (entry (numbers_in c.args.units.now)) _ _ _ l.i 4356 (search rules) l.invariant c.requires.4,
    )

pub loop-i-preserved : goal.loop-i-preserved
loop-i-preserved c =
    sweep-step _ _ (entry (numbers_in c.args.units.now)) _ _ _ c.loop-i.i c.loop-i.invariant c.put_cell-at.ensures

pub shape_of-memory : goal.shape_of-memory
shape_of-memory c = wrote-length c.loop-i.invariant

pub returns : goal.returns
returns c =
    let e : c.loop-i.i ≡ 4356 = omega arith in
    rw e at c.loop-i.invariant
