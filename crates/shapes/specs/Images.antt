-- A unit's images as the search reads them.
--
--   raise_of v          the shift back by twice v, raised by 64
--   image_joints r ps js  the connections js of the cells ps, turned by row r, and shifted back by twice the first
--                       image
--   Jointed o           the outline's connections are on the largest page
use Rattle.std.specs.Prelude.{List, map, ℕ, ◌+◌, ◌-◌, ◌*◌, ◌<◌, ◌≤◌, ℤ, pos, negsuc}
use Rattle.rules.specs.Page.{Point, ◌⊕◌, opposite}
use Rattle.rules.specs.Turns.{apply}
use Rattle.rules.specs.Shapes.{shift_by}
use Rattle.shapes.specs.Outlines.{joint_count}
use Rattle.shapes.specs.Rows.{turn_at}
use Rattle.shapes.specs.Spots.{least_image}
use Rattle.shapes.specs.Joints.{JointIn}

abbrev pub raise_of : ℤ → ℕ
raise_of (pos a) = 64 - 2 * a
raise_of (negsuc a) = 66 + 2 * a

-- "a transform maps them and keeps that order"; "a shift of the cells shifts them twice as far"
unfoldable pub image_joints : ℕ → List Point → List Point → List Point
image_joints r ps js =
    shift_by (opposite (least_image r ps) ⊕ opposite (least_image r ps)) (map (apply (turn_at r)) js)

pub record Jointed (o : List ℕ) : Type 0 where
  pub few : joint_count o ≤ 2048
  pub each : (j : ℕ) → j < joint_count o → JointIn o j
