-- The connections below and right of a cell, one after the other; all numbers are small.
-- the cell's row and column
use mathlib.Core.Path.{◌≡◌, ◌∙◌}
use mathlib.Core.Bool.{true}
use Prim.Native.Nat.{◌+◌, ◌/◌, ◌%◌, ◌<◌}
use native.Mathlib.Omega.{arith}
use lib.Dec.{ltb}
use Rattle.rules.specs.Codes.{states_in}
use Rattle.rules.specs.Groups.{entry}
use Rattle.laws.specs.FlatLaws.{counts, row_of_lem}
use Rattle.groups.specs.Grouping.{numbers_in}
use Rattle.shapes.specs.JointLaws.{cell_room}
use Rattle.fitting.specs.CopyLaws.{copy-cell-yes, copy-cell-no}
use Rattle.fitting.proofs.copies.cell_clear.Goals.{Start}
use Rattle.fitting.proofs.copies.cell_clear.Goals as goal

row_low : (s : Start) → s.args.c / s.args.w < 32
row_low s = let z = s.requires.0.sized in omega (arith, (row_of_lem _ _ _ s.requires.1).row)

column-low : (s : Start) → s.args.c % s.args.w < 32
column-low s = let z = s.requires.0.sized in omega (arith, (row_of_lem _ _ _ s.requires.1).column)

-- the cells below and right of it
below-low : (s : Start) → ltb (s.args.c / s.args.w + 1) s.args.h ≡ true → s.args.c + s.args.w < 1024
below-low s t =
    let r = row_of_lem _ _ _ s.requires.1 in
    omega (arith, (cell_room s.requires.0.sized r.row r.column).1 t, r.same)

right-low : (s : Start) → ltb (s.args.c % s.args.w + 1) s.args.w ≡ true → s.args.c + 1 < 1024
right-low s t =
    let r = row_of_lem _ _ _ s.requires.1 in
    omega (arith, (cell_room s.requires.0.sized r.row r.column).2 t, r.same)

pub overflow_mul-down : goal.overflow_mul-down
overflow_mul-down c = omega (arith, row_low c)

pub overflow_add-down : goal.overflow_add-down
overflow_add-down c = omega (arith, row_low c, c.requires.2.down)

pub overflow_mul-across : goal.overflow_mul-across
overflow_mul-across c = omega (arith, column-low c)

pub overflow_add-across : goal.overflow_add-across
overflow_add-across c = omega (arith, column-low c, c.requires.2.across)

pub overflow_add-below : goal.overflow_add-below
overflow_add-below c = omega (arith, row_low c)

pub overflow_add-right : goal.overflow_add-right
overflow_add-right c = omega (arith, column-low c)

pub overflow_add-c : goal.overflow_add-c
overflow_add-c c = omega (arith, c.requires.1, (counts c.requires.0.sized).cells, c.requires.0.sized.broad)

pub overflow_add-down-2 : goal.overflow_add-down-2
overflow_add-down-2 c = omega (arith, row_low c, c.requires.2.down)

pub joint_clear-requires : goal.joint_clear-requires
joint_clear-requires c =
    let k = c.requires.2 in (
      c.requires.0,
      below-low c,
      omega (arith, k.even.0),
      omega (arith, row_low c, k.down),
      omega (arith, column-low c, k.across),
    )

pub overflow_add-c-then-joint_clear : goal.overflow_add-c-then-joint_clear
overflow_add-c-then-joint_clear c = omega (arith, c.requires.1, (counts c.requires.0.sized).cells)

pub overflow_add-across-then-joint_clear : goal.overflow_add-across-then-joint_clear
overflow_add-across-then-joint_clear c =
    omega (arith, column-low (goal.at.overflow_add-across-then-joint_clear c).Start, c.requires.2.across)

pub joint_clear-requires-then-joint_clear : goal.joint_clear-requires-then-joint_clear
joint_clear-requires-then-joint_clear c =
    let k = c.requires.2 in (
      c.requires.0,
      right-low (goal.at.joint_clear-requires-then-joint_clear c).Start,
      omega (arith, k.even.1),
      omega (arith, row_low (goal.at.joint_clear-requires-then-joint_clear c).Start, k.down),
      omega (arith, column-low (goal.at.joint_clear-requires-then-joint_clear c).Start, k.across),
    )

pub returns-then-joint_clear : goal.returns-then-joint_clear
returns-then-joint_clear c =
    copy-cell-yes c.args.h c.args.w c.args.colours.now (states_in c.args.borders.now) c.args.y
    c.args.x (entry (numbers_in c.args.units.now)) c.args.g c.args.c (row_of_lem _ _ _ c.requires.1).column
    c.joint_clear.ensures c.if-joint_clear.true c.joint_clear-then-joint_clear.ensures

pub returns-else-joint_clear : goal.returns-else-joint_clear
returns-else-joint_clear c =
    c.if-joint_clear.false
    ∙ copy-cell-no c.args.h c.args.w c.args.colours.now (states_in c.args.borders.now) c.args.y
    c.args.x (entry (numbers_in c.args.units.now)) c.args.g c.args.c (row_of_lem _ _ _ c.requires.1).column
    c.joint_clear.ensures c.if-joint_clear.false
