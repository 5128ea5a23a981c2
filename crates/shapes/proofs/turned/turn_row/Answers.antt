-- The signs read are those of the row, and the first image's place gives the shift: so the turn makes the image.
use mathlib.Core.Path.{◌≡◌, ap, ap₂, ◌∙◌}
use Prim.Native.Nat.{◌<◌}
use native.Mathlib.Omega.{arith}
use lib.Signed.{mag}
use Rattle.rules.specs.Turns.{apply}
use Rattle.shapes.specs.Raising.{raised, turn_of, moved_by}
use Rattle.shapes.specs.PairLaws.{small-back}
use Rattle.shapes.specs.Spots.{joint_spots}
use Rattle.shapes.specs.Images.{raise_of}
use Rattle.shapes.specs.ImageLaws.{below, down-near, across-near, turnable, moved-image}
use Rattle.shapes.proofs.turned.turn_row.Goals.{After-raise-x}
use Rattle.shapes.proofs.turned.turn_row.Goals as goal

pub raise-y-requires : goal.raise-y-requires
raise-y-requires c =
    let p = c.least-m.result in
    let n : mag p.y < 33 =
    down-near c.args.row c.args.outline.now c.requires.1 p
    c.least-m.ensures in
    rw (small-back p.y (omega arith)) n

pub raise-x-requires : goal.raise-x-requires
raise-x-requires c =
    let p = c.least-m.result in
    let n : mag p.x < 33 =
    across-near c.args.row c.args.outline.now c.requires.1 p
    c.least-m.ensures in
    rw (small-back p.x (omega arith)) n

-- the shift that the two calls of raise give
down-raised : (c : After-raise-x) → c.raise-y.result
    ≡ raise_of c.least-m.result.y
down-raised c =
    let p = c.least-m.result in
    let n : mag p.y < 33 =
    down-near c.args.row c.args.outline.now c.requires.1 p
    c.least-m.ensures in
    c.raise-y.ensures ∙ ap raise_of (small-back p.y (omega arith))

across-raised : (c : After-raise-x) → c.raise-x.result
    ≡ raise_of c.least-m.result.x
across-raised c =
    let p = c.least-m.result in
    let n : mag p.x < 33 =
    across-near c.args.row c.args.outline.now c.requires.1 p
    c.least-m.ensures in
    c.raise-x.ensures ∙ ap raise_of (small-back p.x (omega arith))

pub turn_joints-requires : goal.turn_joints-requires
turn_joints-requires c = (
  rw (
    down-raised (goal.at.turn_joints-requires c).After-raise-x,
    across-raised (goal.at.turn_joints-requires c).After-raise-x,
  )
      (turnable c.args.row c.args.outline.now c.requires.1 c.requires.2 c.least-m.result
      c.least-m.ensures c.signs_at-s.result c.signs_at-s.ensures),
  c.requires.3,
)

pub returns : goal.returns
returns c =
    let q = c.signs_at-s.result in
    let t = c.turn_joints.ensures in (
      t.0,
      t.1
          ∙ (ap₂ (λ y x. moved_by (apply (turn_of q.swap (below q.down) (below q.across))) (raised y x)
          (joint_spots c.args.outline.now)) (down-raised (goal.at.returns c).After-raise-x)
          (across-raised (goal.at.returns c).After-raise-x)
          ∙ moved-image c.args.row c.args.outline.now c.requires.1 c.requires.2 c.least-m.result
          c.least-m.ensures q c.signs_at-s.ensures),
      t.2,
    )
