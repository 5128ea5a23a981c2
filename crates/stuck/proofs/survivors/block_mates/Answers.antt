-- The loop's invariant: the blockers beside the groups before this one are written.
use mathlib.Core.Path.{◌≡◌, ◌∙◌}
use mathlib.Core.List.{List}
use Prim.Native.Nat.{ℕ, ◌+◌, ◌<◌}
use native.Mathlib.Omega.{arith}
use lib.ListN.{get_or}
use Rattle.lists.specs.Lists.{flat_map}
use Rattle.rules.specs.declared.Literal.{Literal}
use Rattle.groups.specs.Grouping.{cells_in, starts_in, start_in}
use Rattle.groups.specs.Parts.{part_of}
use Rattle.reasons.proofs.MemoryLaws.{write-none, write-more}
use Rattle.adjacent.specs.Mates.{mate_count}
use Rattle.reasons.specs.Arrays.{Cells}
use Rattle.adjacent.specs.BesideLaws.{mates-reach}
use Rattle.planes.specs.MaskLaws.{mate-listed, mate-read, listed-cells}
use Rattle.stuck.specs.Survivors.{block_in}
use Rattle.stuck.proofs.survivors.block_mates.Goals.{In-loop-mate, After-from-in-loop-mate, Start}
use Rattle.stuck.proofs.survivors.block_mates.Goals as goal

-- the blockers beside a group
abbrev each : Start → ℕ → List Literal
each s q =
    flat_map
    (block_in s.args.h s.args.w s.args.borders.now s.args.rows.now s.args.turned.now s.args.n)
    (part_of (cells_in s.args.potential.now) (starts_in s.args.potential.now) q)

pub loop-mate-init : goal.loop-mate-init
loop-mate-init c = write-none (each (goal.at.loop-mate-init c).Start) c.args.mates.now 0 c.requires.5

-- the unit that is read is one of the list
next : (t : In-loop-mate) → t.loop-mate.mate-index < mate_count t.args.mates.now
next t = mate-listed t.args.mates.now t.loop-mate.mate-index (rw t.from.ensures at t.loop-mate-test.true)

mate : (c : After-from-in-loop-mate)
    → c.from-in-loop-mate.result ≡ get_or c.args.mates.now c.loop-mate.mate-index 0
mate c =
    (rw c.from.ensures at c.from-in-loop-mate.ensures)
    ∙ mate-read c.args.mates.now c.loop-mate.mate-index (next (goal.at.cells_of-requires c).In-loop-mate)

group : (c : After-from-in-loop-mate) → let q = c.from-in-loop-mate.result in
    (q < 1024)
    × Cells c.args.h c.args.w (cells_in c.args.potential.now) (start_in c.args.potential.now q)
    (start_in c.args.potential.now (q + 1))
group c =
    let i = c.loop-mate.mate-index in
    let l = next (goal.at.cells_of-requires c).In-loop-mate in
    rw (mate c) (c.requires.4.low i l, c.requires.4.each i l)

pub cells_of-requires : goal.cells_of-requires
cells_of-requires c = let g = group c in (g.0, g.1.order, g.1.end)

pub block_group-at-requires : goal.block_group-at-requires
block_group-at-requires c = (
  c.requires.0,
  c.requires.1,
  c.requires.2,
  c.requires.3,
  rw c.cells_of.ensures (listed-cells (group (goal.at.block_group-at-requires c).After-from-in-loop-mate).1),
  c.loop-mate.invariant.spare,
)

pub loop-mate-preserved : goal.loop-mate-preserved
unfolding part_of
loop-mate-preserved c =
    write-more (each (goal.at.loop-mate-preserved c).Start) c.args.mates.now 0 c.loop-mate.mate-index (omega arith)
    c.loop-mate.invariant
    (omega (arith, next (goal.at.loop-mate-preserved c).In-loop-mate, mates-reach c.requires.4))
    (rw (← mate (goal.at.loop-mate-preserved c).After-from-in-loop-mate)
    (rw c.cells_of.ensures at c.block_group-at.ensures))
