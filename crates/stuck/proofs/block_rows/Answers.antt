-- The loop's invariant: the blockers of the images by the listed rows passed are written.
use mathlib.Core.Path.{◌≡◌, ap, ◌∙◌}
use mathlib.Core.List.{List}
use Prim.Native.Nat.{ℕ, zero}
use native.Mathlib.Omega.{arith}
use lib.ListN.{length, get_or, length-replicate}
use Rattle.lists.specs.UpToLaws.{flat_up}
use Rattle.rules.specs.Codes.{states_in, unclued}
use Rattle.rules.specs.declared.Literal.{Literal}
use Rattle.groups.specs.Grouping.{cells_in, starts_in}
use Rattle.reasons.proofs.MemoryLaws.{turns-none, turns_more, turns-end}
use Rattle.shapes.specs.Raising.{Raised, spelled}
use Rattle.shapes.specs.Images.{image_joints}
use Rattle.shapes.specs.Spots.{cell_spots, joint_spots}
use Rattle.adjacent.specs.Mates.{mates_in}
use Rattle.stuck.specs.BlockLaws.{lain-rows, blocks-row}
use Rattle.stuck.specs.Writing.{blocks_by, blocks_listed}
use Rattle.stuck.proofs.block_rows.Goals.{After-turn_row, Start}
use Rattle.stuck.proofs.block_rows.Goals as goal

-- the blockers by the listed row i
abbrev each : Start → ℕ → List Literal
each s i =
    blocks_by (unclued s.args.h s.args.w s.args.colours.now) (states_in s.args.borders.now)
    (cells_in s.args.potential.now) (starts_in s.args.potential.now) (mates_in s.args.mates.now)
    (cell_spots s.args.outline.now) (joint_spots s.args.outline.now) (get_or s.args.listed.now i 0)

pub loop-row-init : goal.loop-row-init
loop-row-init c = (
  length-replicate 4096 zero,
  length-replicate 32 zero,
  turns-none (each (goal.at.loop-row-init c).Start) c.requires.5,
)

-- the connections of the image, as the survivors and the blockers read them
image-raised : (c : After-turn_row) → Raised c.turn_row.new.turned c.joint_count-k.result
image-raised c = rw c.joint_count-k.ensures c.turn_row.ensures.0

image-spelled : (c : After-turn_row) → let a = c.args in
    spelled c.turn_row.new.turned c.joint_count-k.result
    ≡ image_joints (get_or a.listed.now c.loop-row.row-index 0) (cell_spots a.outline.now)
    (joint_spots a.outline.now)
image-spelled c =
    rw (← c.from.ensures) (ap (spelled c.turn_row.new.turned) c.joint_count-k.ensures ∙ c.turn_row.ensures.1)

pub block_mates-at-requires : goal.block_mates-at-requires
block_mates-at-requires c =
    let bs = c.args.borders.now in
    let e = c.draw_colours.ensures in (
      c.requires.1.sized,
      image-raised (goal.at.block_mates-at-requires c).After-turn_row,
      lain-rows c.requires.1 bs _ _ (image-raised (goal.at.block_mates-at-requires c).After-turn_row) e
          c.survivors.ensures,
      c.draw_places.ensures,
      c.requires.4,
      c.loop-row.invariant.2.spare,
    )

pub loop-row-preserved : goal.loop-row-preserved
unfolding blocks_by
loop-row-preserved c =
    let bs = c.args.borders.now in
    let e = c.draw_colours.ensures in (
      c.turn_row.ensures.2,
      c.survivors.ensures.size,
      turns_more (each (goal.at.loop-row-preserved c).Start) c.loop-row.row-index c.loop-row.invariant.2
          (rw (blocks-row c.requires.1 bs _ _ (image-raised (goal.at.loop-row-preserved c).After-turn_row) e
          c.survivors.ensures c.requires.4
          c.draw_mask.ensures.0 (image-spelled (goal.at.loop-row-preserved c).After-turn_row))
          at c.block_mates-at.ensures),
    )

pub returns : goal.returns
unfolding blocks_listed
returns c =
    rw flat_up
    (turns-end (each (goal.at.returns c).Start) c.loop-row.row-index c.loop-row.invariant.2 (length c.args.listed.now)
    (omega arith) (omega arith))
