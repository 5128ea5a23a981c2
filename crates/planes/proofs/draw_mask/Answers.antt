-- The loop's invariant: the cells of the groups before this one are flagged, and no others.
use mathlib.Core.Path.{◌≡◌, ◌∙◌}
use Prim.Native.Nat.{◌+◌, ◌<◌}
use native.Mathlib.Omega.{arith}
use lib.ListN.{get_or}
use Rattle.groups.specs.Grouping.{cells_in, starts_in, start_in}
use Rattle.groups.specs.Parts.{part_of}
use Rattle.reasons.specs.Arrays.{Cells}
use Rattle.adjacent.specs.Mates.{mate_count}
use Rattle.adjacent.specs.BesideLaws.{mates-reach}
use Rattle.planes.specs.MaskLaws.{masked-none, mates-none, mates-more}
use Rattle.planes.specs.MaskLaws.{mate-listed, mate-read, listed-cells}
use Rattle.planes.proofs.draw_mask.Goals.{In-loop-mate, After-from-in-loop-mate}
use Rattle.planes.proofs.draw_mask.Goals as goal

pub loop-mate-init : goal.loop-mate-init
loop-mate-init c =
    mates-none c.args.w (cells_in c.args.potential.now) (starts_in c.args.potential.now) c.args.mates.now 0
    (masked-none c.args.w (rw c.told-mask at (c.fill.ensures.after (λ y e. e))))

-- the unit that is read is one of the list
next : (c : In-loop-mate) → c.loop-mate.mate-index < mate_count c.args.mates.now
next c =
    mate-listed c.args.mates.now c.loop-mate.mate-index (rw c.from.ensures at c.loop-mate-test.true)

mate : (c : After-from-in-loop-mate)
    → c.from-in-loop-mate.result ≡ get_or c.args.mates.now c.loop-mate.mate-index 0
mate c =
    (rw c.from.ensures at c.from-in-loop-mate.ensures)
    ∙ mate-read c.args.mates.now c.loop-mate.mate-index (next (goal.at.cells_of-requires c).In-loop-mate)

group : (c : After-from-in-loop-mate) → let q = c.from-in-loop-mate.result in
    (q < 1024)
    × Cells c.args.h c.args.w (cells_in c.args.potential.now) (start_in c.args.potential.now q)
    (start_in c.args.potential.now (q + 1))
group c =
    let i = c.loop-mate.mate-index in
    let l = next (goal.at.cells_of-requires c).In-loop-mate in
    rw (mate c) (c.requires.1.low i l, c.requires.1.each i l)

pub cells_of-requires : goal.cells_of-requires
cells_of-requires c = let g = group c in (g.0, g.1.order, g.1.end)

pub flag_group-requires : goal.flag_group-requires
flag_group-requires c = (
  c.requires.0,
  rw c.cells_of.ensures (listed-cells (group (goal.at.flag_group-requires c).After-from-in-loop-mate).1),
)

pub loop-mate-preserved : goal.loop-mate-preserved
unfolding part_of
loop-mate-preserved c =
    let f = c.flag_group.ensures _ c.loop-mate.invariant in
    mates-more c.args.w (cells_in c.args.potential.now) (starts_in c.args.potential.now) c.args.mates.now 0
    c.loop-mate.mate-index (omega arith)
    (omega (arith, next (goal.at.loop-mate-preserved c).In-loop-mate, mates-reach c.requires.1))
    (rw (← mate (goal.at.loop-mate-preserved c).After-from-in-loop-mate) (rw c.cells_of.ensures at f))
